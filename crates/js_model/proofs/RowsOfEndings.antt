-- Worked rows of the router: how a subscription ends.
use Rattle.std.specs.Prelude.{◌≡◌, ℕ, true, false, List, [], ◌∷◌, ◌++◌, Some, None, codes, refl}
use Rattle.std.specs.Fmt.{digits}
use Rattle.js_model.specs.Router.{Router, Queue, RouteCall, Open, Unsub, Publish, Collect, Taken, Frames, route}
use Rattle.js_model.proofs.SamplesOfRouter.{told_of, out, say, heard, plain}

-- a session with a subscription to `a`
abbrev one_sub : List RouteCall
one_sub = Open ∷ plain 1 (codes "a") (codes "1") ∷ []

-- ---- at once

unsubscribing : told_of (one_sub ++ Unsub 1 (codes "1") None ∷ []) (say (codes "x")) ≡ Taken 0
unfolding route
unsubscribing = refl

-- of another identifier, and of another session
others_stay : told_of (Open ∷ Open ∷ plain 1 (codes "a") (codes "1") ∷ Unsub 1 (codes "2") None ∷ Unsub 2 (codes "1") None ∷ []) (say (codes "x")) ≡ Taken 1
unfolding route
others_stay = refl

-- what waits is still given
still_given : told_of (one_sub ++ say (codes "x") ∷ Unsub 1 (codes "1") None ∷ []) (Collect 1 1000) ≡ Frames (heard (codes "1") (codes "x") ∷ []) false
unfolding route digits
still_given = refl

-- ---- after a number of messages

-- `UNSUB 1 2` and three messages: two are taken
abbrev two_of_three : List RouteCall
two_of_three = one_sub ++ Unsub 1 (codes "1") (Some 2) ∷ say (codes "x") ∷ say (codes "y") ∷ []

third : told_of two_of_three (say (codes "z")) ≡ Taken 0
unfolding route digits
third = refl

only_two : told_of (two_of_three ++ say (codes "z") ∷ []) (Collect 1 1000) ≡ Frames (heard (codes "1") (codes "x") ∷ heard (codes "1") (codes "y") ∷ []) false
unfolding route digits
only_two = refl

-- one message was sent since the SUB, and one in all is no more
spent_at_once : told_of (one_sub ++ say (codes "x") ∷ Unsub 1 (codes "1") (Some 1) ∷ []) (say (codes "y")) ≡ Taken 0
unfolding route digits
spent_at_once = refl

-- one message was sent since the SUB, and two in all is one more
one_more_in_all : told_of (one_sub ++ say (codes "x") ∷ Unsub 1 (codes "1") (Some 2) ∷ []) (say (codes "y")) ≡ Taken 1
unfolding route digits
one_more_in_all = refl

then_over : told_of (one_sub ++ say (codes "x") ∷ Unsub 1 (codes "1") (Some 2) ∷ say (codes "y") ∷ []) (say (codes "z")) ≡ Taken 0
unfolding route digits
then_over = refl

none_at_all : told_of (one_sub ++ Unsub 1 (codes "1") (Some 0) ∷ []) (say (codes "x")) ≡ Taken 0
unfolding route
none_at_all = refl

-- messages that do not match are not counted
unmatched : told_of (one_sub ++ Unsub 1 (codes "1") (Some 1) ∷ Publish (out (codes "b") (codes "x")) None ∷ []) (say (codes "y")) ≡ Taken 1
unfolding route digits
unmatched = refl

-- ---- one UNSUB after another

-- `UNSUB 1 2` and then `UNSUB 1 5`: the last one counts
abbrev two_then_five : List RouteCall
two_then_five = one_sub ++ Unsub 1 (codes "1") (Some 2) ∷ Unsub 1 (codes "1") (Some 5) ∷ say (codes "x") ∷ say (codes "x") ∷ say (codes "x") ∷ say (codes "x") ∷ []

fifth : told_of two_then_five (say (codes "x")) ≡ Taken 1
unfolding route digits
fifth = refl

sixth : told_of (two_then_five ++ say (codes "x") ∷ []) (say (codes "x")) ≡ Taken 0
unfolding route digits
sixth = refl

-- and also if it is the smaller one
five_then_two : told_of (one_sub ++ Unsub 1 (codes "1") (Some 5) ∷ Unsub 1 (codes "1") (Some 2) ∷ say (codes "x") ∷ say (codes "x") ∷ []) (say (codes "x")) ≡ Taken 0
unfolding route digits
five_then_two = refl

-- an UNSUB without a maximum ends what has one
limit_then_none : told_of (one_sub ++ Unsub 1 (codes "1") (Some 5) ∷ Unsub 1 (codes "1") None ∷ []) (say (codes "x")) ≡ Taken 0
unfolding route
limit_then_none = refl

-- ---- a SUB after the end, and before

-- the subscription ended with its first message; a new one under its identifier has no maximum
abbrev sub_again : List RouteCall
sub_again = one_sub ++ Unsub 1 (codes "1") (Some 1) ∷ say (codes "x") ∷ plain 1 (codes "a") (codes "1") ∷ say (codes "y") ∷ []

no_maximum : told_of sub_again (say (codes "z")) ≡ Taken 1
unfolding route digits
no_maximum = refl

-- it counts anew: one message was sent since its SUB
counts_anew : told_of (sub_again ++ Unsub 1 (codes "1") (Some 2) ∷ []) (say (codes "z")) ≡ Taken 1
unfolding route digits
counts_anew = refl

-- an UNSUB of an identifier that is not in use leaves nothing behind
unsub_before : told_of (Open ∷ Unsub 1 (codes "1") (Some 1) ∷ plain 1 (codes "a") (codes "1") ∷ say (codes "x") ∷ []) (say (codes "y")) ≡ Taken 1
unfolding route digits
unsub_before = refl

-- a SUB under an identifier in use keeps the count and the maximum
kept_count : told_of (one_sub ++ Unsub 1 (codes "1") (Some 2) ∷ say (codes "x") ∷ plain 1 (codes "a") (codes "1") ∷ say (codes "y") ∷ []) (say (codes "z")) ≡ Taken 0
unfolding route digits
kept_count = refl

-- ---- one identifier in two sessions, of which one has a maximum

abbrev two_sessions : List RouteCall
two_sessions = Open ∷ Open ∷ plain 1 (codes "a") (codes "1") ∷ plain 2 (codes "a") (codes "1") ∷ Unsub 1 (codes "1") (Some 1) ∷ []

both_take : told_of two_sessions (say (codes "x")) ≡ Taken 2
unfolding route
both_take = refl

one_is_left : told_of (two_sessions ++ say (codes "x") ∷ []) (say (codes "y")) ≡ Taken 1
unfolding route digits
one_is_left = refl

left_is_other : told_of (two_sessions ++ say (codes "x") ∷ say (codes "y") ∷ []) (Collect 2 1000) ≡ Frames (heard (codes "1") (codes "x") ∷ heard (codes "1") (codes "y") ∷ []) false
unfolding route digits
left_is_other = refl

-- what one of them is sent counts for it alone
counted_apart : told_of (Open ∷ Open ∷ plain 1 (codes "a") (codes "1") ∷ plain 2 (codes "b") (codes "1") ∷ Unsub 1 (codes "1") (Some 2) ∷ Publish (out (codes "b") (codes "x")) None ∷ say (codes "y") ∷ [])
    (say (codes "z")) ≡ Taken 1
unfolding route digits
counted_apart = refl

-- ---- a count stands still at 2^64 - 1

abbrev counting : ℕ → Router
counting sent = record {
  sessions = record { number = 1; echo = true; headers = false; waiting = Queue [] } ∷ [];
  subscriptions = record { session = 1; sid = codes "1"; pattern = codes "a"; queue = None; sent = sent; max = None } ∷ [];
  latest = 1;
}

counts_one : (route (counting 18446744073709551614) (say (codes "x")) []).router.subscriptions ≡ (counting 18446744073709551615).subscriptions
unfolding route
counts_one = refl

stands_still : (route (counting 18446744073709551615) (say (codes "x")) []).router.subscriptions ≡ (counting 18446744073709551615).subscriptions
unfolding route
stands_still = refl
