use Rattle.std.proofs.Common.{◌∙◌, Some, cond, map, sym, ap, arith}
use Rattle.std.specs.List.{position_from}
use Rattle.js_base.specs.Bytes.{same, same_option}
use Rattle.route_core.specs.Groups.{place_of}
use Rattle.std.proofs.lemmas.Map.Text.{btree_map_updates_str}
use Rattle.route_core.proofs.Members.{place_within, preferred_members, preferred_places, added_members, added_places}
use Rattle.route_core.proofs.groups.enter.Goals as goal

pub index_mut-member-requires : goal.index_mut-member-requires
index_mut-member-requires c =
    let within = place_within (λ member. member.sub.now) c.args.places.now c.args.members.now.items c.args.group.now c.requires.places c.args.heard.now.sub.now c.requires.group c.in-Some.at (sym c.place_of.ensures.value ∙ c.in-Some.is) in
    omega (arith, within, c.args.members.now.ok.0)

pub returns-in-Some : goal.returns-in-Some
returns-in-Some c =
    let old = c.args.members.now.items in
    let h = sym c.place_of.ensures.value ∙ c.in-Some.is in
    let was = c.index_mut-member.result.now in
    let is = c.index_mut-member.ensures.value in record {
      members = preferred_members (λ member. member.sub.now) c.args.places.now old c.args.group.now c.requires.places c.args.heard.now.sub.now c.requires.group c.in-Some.at h was c.prefer.new.member is c.prefer.ensures.value;
      places = preferred_places (λ member. member.sub.now) c.args.places.now old c.args.group.now c.requires.places c.args.heard.now.sub.now c.requires.group c.in-Some.at h was c.prefer.new.member is c.prefer.ensures.value;
    }

pub returns-in_ok-push-in-None : goal.returns-in_ok-push-in-None
returns-in_ok-push-in-None c =
    let places = c.args.places.now in
    let old = c.args.members.now.items in
    let group = c.args.group.now in
    let h = sym c.place_of.ensures.value ∙ c.in-None.is in
    let pushed = c.in_ok-push-in-None.ensures.items in
    let added = added_places (λ member. member.sub.now) places old group c.requires.places c.args.heard.now c.requires.group h c.insert.new.self
    (λ name. btree_map_updates_str group places c.insert.new.self _ c.in_ok-insert-in-None.ensures.updates name ∙ ap (λ l. cond (same group name) (Some l) (place_of places name)) (c.len.ensures ∙ c.args.members.now.ok.0)) in
    record {
      members = ap (map (λ member. member.sub.now)) pushed ∙ added_members (λ member. member.sub.now) places old group c.requires.places c.args.heard.now c.requires.group h;
      places = λ name. added name ∙ sym (ap (λ ms. position_from (same_option (Some name)) 0 (map (λ member. member.queue) (map (λ member. member.sub.now) ms))) pushed);
    }
