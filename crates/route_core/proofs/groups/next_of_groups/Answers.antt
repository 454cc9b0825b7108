use Rattle.std.proofs.Common.{◌∙◌, Some, map, sym, ap, Bor}
use Rattle.std.specs.List.{position_from}
use Rattle.std.specs.Map.{lookup}
use Rattle.std.specs.Ordering.{nat_cmp}
use Rattle.std.specs.Cmp.Lexicographic.{slice_cmp}
use Rattle.std.specs.BTreeMap.{is_at}
use Rattle.js_base.specs.Bytes.{Bytes, same_option}
use Rattle.route_core.specs.Groups.{place_of}
use Rattle.route_core.proofs.Members.{grouped_further, plain_further}
use Rattle.route_core.proofs.groups.next_of_groups.Goals as goal
use Rattle.route_core.proofs.groups.next_of_groups.Goals.{in-Some+in_ok-enter, in_default}

pub loop-heard-init : goal.loop-heard-init
loop-heard-init c = record {
  members = ap (map (λ member. member.sub.now)) c.new-members.ensures.items;
  places = λ name. ap (lookup (is_at (λ (key : Bor Bytes). slice_cmp nat_cmp name key.now))) c.new-places.ensures.empty ∙ sym (ap (λ ms. position_from (same_option (Some name)) 0 (map (λ member. member.queue) (map (λ member. member.sub.now) ms))) c.new-members.ensures.items);
}

pub loop-heard-preserved : goal.loop-heard-preserved
loop-heard-preserved c =
    let refs = c.args.hearing.now in
    let i = c.loop-heard.heard-index in
    let x = c.heard-item.result in
    let kept = c.loop-heard.invariant in
    let members = map (λ member. member.sub.now) c.loop-heard.members.items in
    elim c.match-queue.branch [
      | in-Some+in_ok-enter w ↦
          record {
            members = ap (λ v. map (λ member. member.sub.now) v.items) w.members-is ∙ w.in_ok-enter.ensures.members
                ∙ grouped_further (λ heard. heard.sub.now) refs i x c.loop-heard-test.true c.heard-item.is members kept.members w.in-Some.group.now w.in-Some.ensures.value;
            places = λ name. ap (λ p. place_of p name) w.places-is ∙ w.in_ok-enter.ensures.places name
                ∙ sym (ap (λ v. position_from (same_option (Some name)) 0 (map (λ member. member.queue) (map (λ member. member.sub.now) v.items))) w.members-is);
          }
      | in_default w ↦
          record {
            members = ap (λ v. map (λ member. member.sub.now) v.items) w.members-is
                ∙ plain_further (λ heard. heard.sub.now) refs i x c.loop-heard-test.true c.heard-item.is members kept.members w.in_default.ensures.value;
            places = λ name. ap (λ p. place_of p name) w.places-is ∙ kept.places name
                ∙ sym (ap (λ v. position_from (same_option (Some name)) 0 (map (λ member. member.queue) (map (λ member. member.sub.now) v.items))) w.members-is);
          }
    ]

pub enter-requires : goal.enter-requires
enter-requires c = record { group = sym c.in-Some.ensures.value; places = c.loop-heard.invariant.places }
