-- Which subscriptions take a message: those in no queue group, and of each group one that may be sent it.
use Rattle.std.specs.Prelude.{◌≡◌, ℕ, nat_lt, not, List, [], ◌∷◌, ◌++◌, map, filter, Option, Some, if◌then◌else◌}
use Rattle.std.specs.List.{position_from}
use Rattle.std.specs.Ordering.{nat_cmp}
use Rattle.std.specs.Cmp.Lexicographic.{slice_cmp}
use Rattle.std.specs.BTreeMap.{BTreeMap, get_by}
use Rattle.std.specs.Borrow.{Bor}
use Rattle.js_base.specs.Bytes.{Bytes, same_option}
use Rattle.js_model.specs.Router.{Subscription, is_plain}
use Rattle.route_core.specs.Subscriptions.{hears, are_together, plain_takers}

-- of two members of a group, the earlier one first, the one that takes the next message
abbrev pub next_of_two : Subscription → Subscription → Subscription
next_of_two earlier later = if nat_lt later.sent earlier.sent then later else earlier

-- the member that takes it, of a subscription and those of its group behind it
abbrev pub next_of : Subscription → List Subscription → Subscription
next_of sub [] = sub
next_of sub (other ∷ others) = next_of (if are_together sub other then next_of_two sub other else sub) others

-- the member of each group that takes it, in the order of the groups' first members
abbrev pub next_of_groups : List Subscription → List Subscription
next_of_groups [] = []
next_of_groups (sub ∷ subs) =
    if is_plain sub then next_of_groups subs else next_of sub subs ∷ filter (λ other. not (are_together sub other)) (next_of_groups subs)

-- these members, if one more subscription of a group may be sent the message
abbrev pub with_candidate : List Subscription → Subscription → List Subscription
with_candidate [] sub = sub ∷ []
with_candidate (member ∷ members) sub = if are_together member sub then next_of_two member sub ∷ members else member ∷ with_candidate members sub

-- the place of the member of a group among the members
abbrev pub place_of : BTreeMap (Bor Bytes) ℕ → Bytes → Option ℕ
place_of places name = get_by (λ key. slice_cmp nat_cmp name key.now) places

-- each member's place is under the name of its group
abbrev pub ArePlaces : BTreeMap (Bor Bytes) ℕ → List Subscription → Type 0
ArePlaces places members = (name : Bytes) → place_of places name ≡ position_from (same_option (Some name)) 0 (map (λ member. member.queue) members)

abbrev pub group_takers : Bytes → Option ℕ → List Subscription → List Subscription
group_takers subject deaf subs = next_of_groups (filter (hears subject deaf) subs)

-- the takers of a message
abbrev pub takers_of : Bytes → Option ℕ → List Subscription → List Subscription
takers_of subject deaf subs = plain_takers subject deaf subs ++ group_takers subject deaf subs
