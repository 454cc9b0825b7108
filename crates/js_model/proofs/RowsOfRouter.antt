-- Worked rows of the router: its sessions, plain subscriptions, interest, and what waits for a session.
use Rattle.std.specs.Prelude.{◌≡◌, true, false, List, [], ◌∷◌, ◌++◌, Some, None, codes, refl}
use Rattle.std.specs.Fmt.{digits}
use Rattle.js_base.specs.declared.out.Out.{Out}
use Rattle.js_base.specs.declared.frame.Frame.TheVariants.{Msg}
use Rattle.js_model.specs.Router.{empty_router, RouteCall, Open, Close, Options, Unsub, Publish, Interest, Collect, Done, Opened, Taken, Listens, Frames, NoSession, Worn, route}
use Rattle.js_model.proofs.SamplesOfRouter.{router_of, told_of, out, said, say, heard, plain, member}

-- ---- sessions

opening : told_of [] Open ≡ Opened 1
unfolding route
opening = refl

opening_again : told_of (Open ∷ Close 1 ∷ []) Open ≡ Opened 2
unfolding route
opening_again = refl

-- the last number is 2^62 - 1
last_number : (route (record empty_router { latest = 4611686018427387902 }) Open []).told ≡ Opened 4611686018427387903
unfolding route
last_number = refl

worn : (route (record empty_router { latest = 4611686018427387903 }) Open []).told ≡ Worn
unfolding route
worn = refl

-- ---- calls of a session that is not open, with the last number that was given

abbrev closed_again : List RouteCall
closed_again = Open ∷ Open ∷ plain 2 (codes "a") (codes "1") ∷ Close 1 ∷ []

not_open : told_of closed_again (plain 1 (codes "a") (codes "1")) ≡ NoSession 2
unfolding route
not_open = refl

not_open_unsub : told_of closed_again (Unsub 1 (codes "1") None) ≡ NoSession 2
unfolding route
not_open_unsub = refl

not_open_publish : told_of closed_again (Publish (out (codes "a") (codes "m")) (Some 1)) ≡ NoSession 2
unfolding route
not_open_publish = refl

not_open_collect : told_of closed_again (Collect 1 1000) ≡ NoSession 2
unfolding route
not_open_collect = refl

-- what it publishes reaches nobody
not_open_reaches : told_of (closed_again ++ Publish (out (codes "a") (codes "m")) (Some 1) ∷ []) (Collect 2 1000) ≡ Frames [] false
unfolding route
not_open_reaches = refl

-- the two calls that never refuse change nothing then
options_of_none : told_of closed_again (Options 1 false true) ≡ Done
unfolding route
options_of_none = refl

options_change_none : router_of (closed_again ++ Options 1 false true ∷ []) ≡ router_of closed_again
unfolding route
options_change_none = refl

close_of_none : told_of closed_again (Close 1) ≡ Done
unfolding route
close_of_none = refl

close_changes_none : router_of (closed_again ++ Close 1 ∷ []) ≡ router_of closed_again
unfolding route
close_changes_none = refl

-- a closed session's subscriptions are gone
closed_takes : told_of (Open ∷ plain 1 (codes "a") (codes "1") ∷ Close 1 ∷ []) (say (codes "m")) ≡ Taken 0
unfolding route
closed_takes = refl

closed_listens : told_of (Open ∷ plain 1 (codes "a") (codes "1") ∷ Close 1 ∷ []) (Interest (codes "a") None) ≡ Listens false
unfolding route
closed_listens = refl

-- another session keeps its own, and what waits for it
other_takes : told_of (Open ∷ Open ∷ plain 1 (codes "a") (codes "1") ∷ plain 2 (codes "a") (codes "1") ∷ Close 1 ∷ []) (say (codes "m")) ≡ Taken 1
unfolding route
other_takes = refl

other_keeps : told_of (Open ∷ Open ∷ plain 2 (codes "a") (codes "1") ∷ say (codes "m") ∷ Close 1 ∷ []) (Collect 2 1000) ≡ Frames (heard (codes "1") (codes "m") ∷ []) false
unfolding route digits
other_keeps = refl

-- ---- plain subscriptions

-- a message goes once to each matching subscription, in order of the SUBs
abbrev three_subs : List RouteCall
three_subs = Open ∷ plain 1 (codes "w.>") (codes "1") ∷ plain 1 (codes "x") (codes "2") ∷ plain 1 (codes "w.*") (codes "3") ∷ []

publishing : told_of three_subs (Publish (out (codes "w.x") (codes "m")) (Some 1)) ≡ Taken 2
unfolding route
publishing = refl

frames : told_of (three_subs ++ Publish (out (codes "w.x") (codes "m")) (Some 1) ∷ []) (Collect 1 1000)
    ≡ Frames (said (codes "w.x") (codes "1") (codes "m") ∷ said (codes "w.x") (codes "3") (codes "m") ∷ []) false
unfolding route digits
frames = refl

-- an identifier that is in use stays as it is
twice : told_of (Open ∷ plain 1 (codes "a") (codes "1") ∷ plain 1 (codes "b") (codes "1") ∷ []) (Publish (out (codes "b") []) (Some 1)) ≡ Taken 0
unfolding route
twice = refl

-- it is in use in its own session alone
twice_apart : told_of (Open ∷ Open ∷ plain 1 (codes "a") (codes "1") ∷ plain 2 (codes "b") (codes "1") ∷ []) (Publish (out (codes "b") []) (Some 1)) ≡ Taken 1
unfolding route
twice_apart = refl

-- ---- where a message goes, and what it shows

-- a message to `_P` that shows the subject `orders.a` and the reply `r`
abbrev for_pull : Out
for_pull = record { to = codes "_P"; subject = codes "orders.a"; reply = Some (codes "r"); headers = []; payload = codes "m" }

abbrev pull_and_orders : List RouteCall
pull_and_orders = Open ∷ plain 1 (codes "orders.a") (codes "1") ∷ plain 1 (codes "r") (codes "2") ∷ plain 1 (codes "_P") (codes "3") ∷ []

by_to : told_of pull_and_orders (Publish for_pull None) ≡ Taken 1
unfolding route
by_to = refl

shows_subject : told_of (pull_and_orders ++ Publish for_pull None ∷ []) (Collect 1 1000) ≡ Frames (Msg (codes "orders.a") (codes "3") (Some (codes "r")) [] (codes "m") ∷ []) false
unfolding route digits
shows_subject = refl

-- ---- options

-- a session that does not hear itself, and one that takes header blocks
abbrev deaf_and_headed : List RouteCall
deaf_and_headed = Open ∷ Open ∷ Options 1 false false ∷ Options 2 true true ∷ plain 1 (codes "a") (codes "1") ∷ plain 2 (codes "a") (codes "1") ∷ []

deaf : told_of deaf_and_headed (Publish (out (codes "a") []) (Some 1)) ≡ Taken 1
unfolding route
deaf = refl

heard_by_both : told_of deaf_and_headed (Publish (out (codes "a") []) (Some 2)) ≡ Taken 2
unfolding route
heard_by_both = refl

-- what nobody published reaches it
from_nobody : told_of deaf_and_headed (Publish (out (codes "a") []) None) ≡ Taken 2
unfolding route
from_nobody = refl

with_block : told_of (deaf_and_headed ++ Publish (out (codes "a") (codes "m")) (Some 1) ∷ []) (Collect 2 1000)
    ≡ Frames (Msg (codes "a") (codes "1") None (codes "H") (codes "m") ∷ []) false
unfolding route digits
with_block = refl

-- the block is left off by the option at the time of the publish
options_later : told_of (Open ∷ plain 1 (codes "a") (codes "1") ∷ say (codes "m") ∷ Options 1 true true ∷ say (codes "n") ∷ Options 1 true false ∷ []) (Collect 1 1000)
    ≡ Frames (heard (codes "1") (codes "m") ∷ Msg (codes "a") (codes "1") None (codes "H") (codes "n") ∷ []) false
unfolding route digits
options_later = refl

-- ---- interest

interest : told_of (Open ∷ plain 1 (codes "a.*") (codes "1") ∷ []) (Interest (codes "a.b") None) ≡ Listens true
unfolding route
interest = refl

no_interest : told_of (Open ∷ plain 1 (codes "a.*") (codes "1") ∷ []) (Interest (codes "b") None) ≡ Listens false
unfolding route
no_interest = refl

not_of_the_group : told_of (Open ∷ plain 1 (codes "a") (codes "1") ∷ member 1 (codes "a") (codes "g") (codes "2") ∷ []) (Interest (codes "a") (Some (codes "h"))) ≡ Listens false
unfolding route
not_of_the_group = refl

of_the_group : told_of (Open ∷ plain 1 (codes "a") (codes "1") ∷ member 1 (codes "a") (codes "g") (codes "2") ∷ []) (Interest (codes "a") (Some (codes "g"))) ≡ Listens true
unfolding route
of_the_group = refl

-- of any subscription, also of a group's member
of_a_member : told_of (Open ∷ member 1 (codes "a") (codes "g") (codes "1") ∷ []) (Interest (codes "a") None) ≡ Listens true
unfolding route
of_a_member = refl

-- a member of the group hears something else
member_elsewhere : told_of (Open ∷ plain 1 (codes "a") (codes "1") ∷ member 1 (codes "b") (codes "g") (codes "2") ∷ []) (Interest (codes "a") (Some (codes "g"))) ≡ Listens false
unfolding route
member_elsewhere = refl

-- asking changes nothing
interest_asks : router_of (Open ∷ plain 1 (codes "a") (codes "1") ∷ Interest (codes "a") None ∷ []) ≡ router_of (Open ∷ plain 1 (codes "a") (codes "1") ∷ [])
unfolding route
interest_asks = refl

-- ---- collecting

-- `MSG a 1 1` CR LF, `m` and CR LF are 14 bytes: at most max bytes, and one frame if any waits
abbrev two_wait : List RouteCall
two_wait = Open ∷ plain 1 (codes "a") (codes "1") ∷ say (codes "m") ∷ say (codes "n") ∷ []

one_at_least : told_of two_wait (Collect 1 0) ≡ Frames (heard (codes "1") (codes "m") ∷ []) true
unfolding route digits
one_at_least = refl

one_fits : told_of two_wait (Collect 1 27) ≡ Frames (heard (codes "1") (codes "m") ∷ []) true
unfolding route digits
one_fits = refl

both_fit : told_of two_wait (Collect 1 28) ≡ Frames (heard (codes "1") (codes "m") ∷ heard (codes "1") (codes "n") ∷ []) false
unfolding route digits
both_fit = refl

-- what was given waits no more
then_the_other : told_of (two_wait ++ Collect 1 0 ∷ []) (Collect 1 1000) ≡ Frames (heard (codes "1") (codes "n") ∷ []) false
unfolding route digits
then_the_other = refl

then_nothing : told_of (two_wait ++ Collect 1 0 ∷ Collect 1 1000 ∷ []) (Collect 1 1000) ≡ Frames [] false
unfolding route digits
then_nothing = refl

-- one session's collects leave what waits for another
of_its_own : told_of (Open ∷ Open ∷ plain 1 (codes "a") (codes "1") ∷ plain 2 (codes "a") (codes "2") ∷ say (codes "m") ∷ Collect 1 1000 ∷ []) (Collect 2 1000)
    ≡ Frames (heard (codes "2") (codes "m") ∷ []) false
unfolding route digits
of_its_own = refl
