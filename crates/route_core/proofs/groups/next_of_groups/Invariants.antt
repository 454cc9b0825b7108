use Rattle.std.proofs.Common.{◌≡◌, map, take}
use Rattle.route_core.specs.Groups.{next_of_groups, ArePlaces}
use Rattle.route_core.proofs.groups.next_of_groups.Given as goal

-- the members of the groups so far are known, and the place of each
abbrev pub invariant-loop-heard : goal.invariant-loop-heard
invariant-loop-heard l = record {
  members : map (λ member. member.sub.now) l.members.items ≡ next_of_groups (map (λ heard. heard.sub.now) (take l.heard-index l.hearing));
  places : ArePlaces l.places (map (λ member. member.sub.now) l.members.items);
}
