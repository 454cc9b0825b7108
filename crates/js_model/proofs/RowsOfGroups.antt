-- Worked rows of the router: queue groups, of which one member takes a message.
use Rattle.std.proofs.Common.{inl, lit<, sym, ap, subst, ◌∙◌}
use Rattle.std.specs.Prelude.{◌≡◌, false, List, [], ◌∷◌, Some, None, codes, refl}
use Rattle.std.specs.Fmt.{digits}
use Rattle.std.proofs.lemmas.Bool.{false≢true}
use Rattle.std.proofs.lemmas.List.Elements.{All-from_recursion, All-contains}
use Rattle.js_base.specs.Bytes.{Bytes, same, same_option}
use Rattle.js_base.specs.declared.frame.Frame.{Frame}
use Rattle.js_model.specs.Router.{Router, Subscription, RouteCall, Open, Options, Unsub, Publish, Collect, Taken, Frames, route, candidates, groups, IsMember, IsChoice, IsRoute}
use Rattle.js_model.proofs.SamplesOfRouter.{router_of, told_of, out, said, say, plain, member, plain_of, member_of, marked_router}

abbrev to_w : RouteCall
to_w = Publish (out (codes "w.x") (codes "m")) None

abbrev w_frame : Bytes → Frame
w_frame sid = said (codes "w.x") sid (codes "m")

-- ---- one member of each group

-- two members of one group, whose patterns differ, one of another, and behind them a plain one and a member that hears something else
abbrev grouped : Router
grouped = router_of (Open ∷ member 1 (codes "w.>") (codes "g") (codes "1") ∷ member 1 (codes "w.*") (codes "h") (codes "2") ∷ member 1 (codes "w.x") (codes "g") (codes "3")
    ∷ plain 1 (codes "w.x") (codes "4") ∷ member 1 (codes "x") (codes "g") (codes "5") ∷ [])

group_names : groups (candidates grouped (codes "w.x") None) ≡ codes "g" ∷ codes "h" ∷ []
unfolding route
group_names = refl

abbrev first_of_g : Subscription
first_of_g = member_of 1 (codes "w.>") (codes "g") (codes "1")

abbrev second_of_g : Subscription
second_of_g = member_of 1 (codes "w.x") (codes "g") (codes "3")

abbrev of_h : Subscription
of_h = member_of 1 (codes "w.*") (codes "h") (codes "2")

one_of_each : (route grouped to_w (second_of_g ∷ of_h ∷ [])).told ≡ Taken 3
unfolding route
one_of_each = refl

-- the plain one comes first
plain_first : (route (route grouped to_w (second_of_g ∷ of_h ∷ [])).router (Collect 1 1000) []).told
    ≡ Frames (w_frame (codes "4") ∷ w_frame (codes "3") ∷ w_frame (codes "2") ∷ []) false
unfolding route digits
plain_first = refl

-- or the other member
other_member : (route (route grouped to_w (first_of_g ∷ of_h ∷ [])).router (Collect 1 1000) []).told
    ≡ Frames (w_frame (codes "4") ∷ w_frame (codes "1") ∷ w_frame (codes "2") ∷ []) false
unfolding route digits
other_member = refl

-- ---- what is a choice

-- a member of the group g among the candidates: the second, the first
second_is_member : IsMember (codes "g") (candidates grouped (codes "w.x") None) second_of_g
unfolding route
second_is_member = record { candidate = (2, lit< tt, refl); member = refl }

first_is_member : IsMember (codes "g") (candidates grouped (codes "w.x") None) first_of_g
unfolding route
first_is_member = record { candidate = (0, lit< tt, refl); member = refl }

h_is_member : IsMember (codes "h") (candidates grouped (codes "w.x") None) of_h
unfolding route
h_is_member = record { candidate = (1, lit< tt, refl); member = refl }

-- either member of g, and then that of h
choice_of_second : IsChoice grouped to_w (second_of_g ∷ of_h ∷ [])
unfolding route
choice_of_second = (second_of_g, of_h ∷ [], refl, second_is_member, (of_h, [], refl, h_is_member, refl))

choice_of_first : IsChoice grouped to_w (first_of_g ∷ of_h ∷ [])
unfolding route
choice_of_first = (first_of_g, of_h ∷ [], refl, first_is_member, (of_h, [], refl, h_is_member, refl))

-- and so it is a call of the router
chosen_call : IsRoute grouped to_w (Taken 3) (route grouped to_w (second_of_g ∷ of_h ∷ [])).router
unfolding route
chosen_call = inl (record { chosen = second_of_g ∷ of_h ∷ []; choice = choice_of_second; routed = refl })

-- ---- what is none

none_of_any : IsChoice grouped to_w [] → ⊥
unfolding route
none_of_any h = let e : [] ≡ h.0 ∷ h.1 = h.2 in cc

-- the two groups have different names
g_is_not_h : Some (codes "g") ≡ Some (codes "h") → ⊥
g_is_not_h e = false≢true (sym (ap (λ name. same_option name (Some (codes "g"))) e))

-- both members of g
both_of_one : IsChoice grouped to_w (first_of_g ∷ second_of_g ∷ of_h ∷ []) → ⊥
unfolding route
both_of_one h =
    let behind : second_of_g ∷ of_h ∷ [] ≡ h.1 = cc in
    let second : second_of_g ≡ h.4.0 = cc in
    g_is_not_h (ap (λ sub. sub.queue) second ∙ h.4.3.member)

-- g's member alone
one_group_only : IsChoice grouped to_w (second_of_g ∷ []) → ⊥
unfolding route
one_group_only h =
    let behind : [] ≡ h.1 = cc in
    let e : [] ≡ h.4.0 ∷ h.4.1 = cc in
    cc

-- h's member before g's
wrong_order : IsChoice grouped to_w (of_h ∷ second_of_g ∷ []) → ⊥
unfolding route
wrong_order h =
    let first : of_h ≡ h.0 = cc in
    g_is_not_h (sym (ap (λ sub. sub.queue) first ∙ h.3.member))

-- the plain one in g's place
plain_chosen : IsChoice grouped to_w (plain_of 1 (codes "w.x") (codes "4") ∷ of_h ∷ []) → ⊥
unfolding route
plain_chosen h =
    let first : plain_of 1 (codes "w.x") (codes "4") ≡ h.0 = cc in
    let e : None ≡ Some (codes "g") = ap (λ sub. sub.queue) first ∙ h.3.member in
    cc

-- a member of g that hears something else
abbrev elsewhere : Subscription
elsewhere = member_of 1 (codes "x") (codes "g") (codes "5")

not_a_candidate : IsChoice grouped to_w (elsewhere ∷ of_h ∷ []) → ⊥
unfolding route
not_a_candidate h =
    let first : elsewhere ≡ h.0 = cc in
    let IsOther : Subscription → Type 0 = λ sub. same sub.sid (codes "5") ≡ false in
    let others = All-from_recursion IsOther (candidates grouped (codes "w.x") None) (refl, (refl, (refl, (refl, tt)))) in
    false≢true (sym (subst IsOther (sym first) (All-contains IsOther (candidates grouped (codes "w.x") None) h.0 others h.3.candidate)))

-- more than one of each group
one_too_many : IsChoice grouped to_w (second_of_g ∷ of_h ∷ first_of_g ∷ []) → ⊥
unfolding route
one_too_many h =
    let behind : of_h ∷ first_of_g ∷ [] ≡ h.1 = cc in
    let e : first_of_g ∷ [] ≡ h.4.1 = cc in
    cc

-- no other call chooses
collect_chooses : IsChoice grouped (Collect 1 1000) (of_h ∷ []) → ⊥
collect_chooses h = cc

-- ---- the order of the groups

-- g has the first SUB, but its first candidate stands behind that of h
abbrev first_elsewhere : Router
first_elsewhere = router_of (Open ∷ member 1 (codes "x") (codes "g") (codes "1") ∷ member 1 (codes "w.x") (codes "h") (codes "2") ∷ member 1 (codes "w.x") (codes "g") (codes "3") ∷ [])

by_first_candidate : groups (candidates first_elsewhere (codes "w.x") None) ≡ codes "h" ∷ codes "g" ∷ []
unfolding route
by_first_candidate = refl

-- the publisher, which does not hear itself, has the first member of g
abbrev own_first : Router
own_first = router_of (Open ∷ Open ∷ Options 1 false false ∷ member 1 (codes "a") (codes "g") (codes "1") ∷ member 2 (codes "a") (codes "h") (codes "1") ∷ member 2 (codes "a") (codes "g") (codes "2") ∷ [])

without_own : groups (candidates own_first (codes "a") (Some 1)) ≡ codes "h" ∷ codes "g" ∷ []
unfolding route
without_own = refl

with_own : groups (candidates own_first (codes "a") (Some 2)) ≡ codes "g" ∷ codes "h" ∷ []
unfolding route
with_own = refl

-- ---- a publisher that does not hear itself, and is alone in its group

abbrev own_alone : List RouteCall
own_alone = Open ∷ Options 1 false false ∷ member 1 (codes "a") (codes "g") (codes "1") ∷ member 1 (codes "a") (codes "g") (codes "2") ∷ []

no_group : groups (candidates (router_of own_alone) (codes "a") (Some 1)) ≡ []
unfolding route
no_group = refl

none_taken : told_of own_alone (Publish (out (codes "a") (codes "m")) (Some 1)) ≡ Taken 0
unfolding route
none_taken = refl

none_chosen : IsChoice (router_of own_alone) (Publish (out (codes "a") (codes "m")) (Some 1)) []
unfolding route
none_chosen = refl

-- what nobody published goes to one of its members
group_of_nobody : groups (candidates (router_of own_alone) (codes "a") None) ≡ codes "g" ∷ []
unfolding route
group_of_nobody = refl

-- ---- groups and the end of a subscription

-- two members of one group, of which the first ends with its first message
abbrev limited_group : Router
limited_group = router_of (Open ∷ member 1 (codes "a") (codes "g") (codes "1") ∷ member 1 (codes "a") (codes "g") (codes "2") ∷ Unsub 1 (codes "1") (Some 1) ∷ [])

abbrev limited_member : Subscription
limited_member = record (member_of 1 (codes "a") (codes "g") (codes "1")) { max = Some 1 }

abbrev free_member : Subscription
free_member = member_of 1 (codes "a") (codes "g") (codes "2")

-- the one that is chosen is counted, and the other is not
only_chosen_counts : (route limited_group (say (codes "m")) (free_member ∷ [])).router.subscriptions ≡ limited_member ∷ record free_member { sent = 1 } ∷ []
unfolding route
only_chosen_counts = refl

-- a member that was sent its last message is in the group no more
spent_member_leaves : (route limited_group (say (codes "m")) (limited_member ∷ [])).router.subscriptions ≡ free_member ∷ []
unfolding route
spent_member_leaves = refl

then_other_only : candidates (route limited_group (say (codes "m")) (limited_member ∷ [])).router (codes "a") None ≡ free_member ∷ []
unfolding route
then_other_only = refl

-- ---- a marked session's member

abbrev marked_member : Subscription
marked_member = member_of 1 (codes "a") (codes "g") (codes "1")

-- it is a candidate, takes the message, and is sent it
marked_is_chosen : IsChoice (marked_router (Some (codes "g"))) (say (codes "m")) (marked_member ∷ [])
marked_is_chosen = (marked_member, [], refl, record { candidate = (0, lit< tt, refl); member = refl }, refl)

marked_takes : (route (marked_router (Some (codes "g"))) (say (codes "m")) (marked_member ∷ [])).told ≡ Taken 1
unfolding route
marked_takes = refl

marked_is_sent : (route (marked_router (Some (codes "g"))) (say (codes "m")) (marked_member ∷ [])).router ≡ record (marked_router (Some (codes "g"))) { subscriptions = record marked_member { sent = 1 } ∷ [] }
unfolding route
marked_is_sent = refl
