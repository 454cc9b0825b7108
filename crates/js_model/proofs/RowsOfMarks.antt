-- Worked rows of the router: sessions that read too slowly, too many subscriptions, and out of memory.
use Rattle.std.proofs.Common.{◌≡◌, inl, inr, refl, ap, sym, ◌∙◌}
use Rattle.std.specs.Prelude.{ℕ, ◌+◌, ◌==◌, ◌^◌, Bool, true, false, nat_lt, nat_le, List, [], ◌∷◌, ◌++◌, length, filter, Option, Some, None, codes, if◌then◌else◌}
use Rattle.std.specs.Fmt.{digits}
use Rattle.std.proofs.lemmas.Bool.{false≢true}
use Rattle.js_base.specs.Bytes.{Bytes}
use Rattle.js_base.specs.declared.frame.Frame.{Frame}
use Rattle.js_model.specs.Router.{Router, Session, Subscription, Waiting, Queue, Marked, RouteCall, Open, Close, Options, Sub, Unsub, Publish, Interest, Collect, RouteTold, Done, Opened, Taken, Slow, NoSession, TooManySubs, Worn, NoMemory, Routed, route, telling, IsRoute, may_want, opened, is_open, is_in_use, is_full, session_of, subscribing, unsubscribed, publishing, emptied, frames_told, collect_told, with_subscription, new_subscription, bytes_together, queue_or_mark, with_frame}
use Rattle.js_model.proofs.SamplesOfRouter.{say, heard, plain, plain_of, marked_router}

-- ---- a marked session

slow : (route (marked_router None) (Collect 1 1000) []).told ≡ Slow 16777520
unfolding route
slow = refl

-- asked again it answers the same
still_slow : (route (route (marked_router None) (Collect 1 1000) []).router (Collect 1 0) []).told ≡ Slow 16777520
unfolding route
still_slow = refl

-- it takes a message, which counts as sent, and stays marked as it was
marked_takes : (route (marked_router None) (say (codes "m")) []).told ≡ Taken 1
unfolding route
marked_takes = refl

marked_counts : (route (marked_router None) (say (codes "m")) []).router
    ≡ record (marked_router None) { subscriptions = record (plain_of 1 (codes "a") (codes "1")) { sent = 1 } ∷ [] }
unfolding route
marked_counts = refl

-- ---- when a session is marked

-- frames of 16,777,216 bytes together wait
at_the_limit : (frames : List Frame) → bytes_together frames ≡ 16777216 → queue_or_mark frames ≡ Queue frames
at_the_limit frames long = ap (λ bytes. if nat_lt 16777216 bytes then Marked bytes else Queue frames) long

-- one byte more marks the session
above_the_limit : (frames : List Frame) → bytes_together frames ≡ 16777217 → queue_or_mark frames ≡ Marked 16777217
above_the_limit frames long = ap (λ bytes. if nat_lt 16777216 bytes then Marked bytes else Queue frames) long

-- a session is marked by the frame that makes it too long, and what waited before is not given any more
marks : (frames : List Frame) (f : Frame) → bytes_together (frames ++ f ∷ []) ≡ 16777520 → with_frame f (Queue frames) ≡ Marked 16777520
marks frames f long = above_by (frames ++ f ∷ []) long
  where
    above_by : (all : List Frame) → bytes_together all ≡ 16777520 → queue_or_mark all ≡ Marked 16777520
    above_by all e = ap (λ bytes. if nat_lt 16777216 bytes then Marked bytes else Queue all) e

-- `MSG a 1 1` CR LF, `m` and CR LF are 14 bytes, and two of them 28
together : bytes_together (heard (codes "1") (codes "m") ∷ heard (codes "1") (codes "n") ∷ []) ≡ 28
unfolding digits
together = refl

-- ---- how many subscriptions a session has

-- a SUB of an open session is judged by whether its identifier is in use, and by how many subscriptions there are
subscribing_is : (r : Router) (n : ℕ) (pattern : Bytes) (queue : Option Bytes) (sid : Bytes) (used : Bool) (count : ℕ)
    → is_open r n ≡ true → is_in_use r n sid ≡ used → length (filter (λ sub. sub.session == n) r.subscriptions) ≡ count
    → route r (Sub n pattern queue sid) []
    ≡ (if used then telling Done r else if nat_le 65536 count then telling TooManySubs r else telling Done (with_subscription r (new_subscription n pattern queue sid)))
unfolding route
subscribing_is r n pattern queue sid used count is_there in_use long =
    let new : Routed = telling Done (with_subscription r (new_subscription n pattern queue sid)) in
    ap (λ (b : Bool). if b then subscribing r n pattern queue sid else telling (NoSession r.latest) r) is_there
    ∙ ap (λ (b : Bool). if b then telling Done r else if is_full r n then telling TooManySubs r else new) in_use
    ∙ ap (λ (m : ℕ). if used then telling Done r else if nat_le 65536 m then telling TooManySubs r else new) long

-- with 65,536 a further one is refused, and nothing changes
full : (r : Router) (n : ℕ) (pattern sid : Bytes) → is_open r n ≡ true → is_in_use r n sid ≡ false → length (filter (λ sub. sub.session == n) r.subscriptions) ≡ 65536
    → route r (plain n pattern sid) [] ≡ telling TooManySubs r
full r n pattern sid is_there unused long = subscribing_is r n pattern None sid false 65536 is_there unused long

-- with 65,535 it is taken
one_is_free : (r : Router) (n : ℕ) (pattern sid : Bytes) → is_open r n ≡ true → is_in_use r n sid ≡ false → length (filter (λ sub. sub.session == n) r.subscriptions) ≡ 65535
    → route r (plain n pattern sid) [] ≡ telling Done (with_subscription r (plain_of n pattern sid))
one_is_free r n pattern sid is_there unused long = subscribing_is r n pattern None sid false 65535 is_there unused long

-- with 65,536 an identifier that is in use is no further one
full_in_use : (r : Router) (n : ℕ) (pattern sid : Bytes) → is_open r n ≡ true → is_in_use r n sid ≡ true → length (filter (λ sub. sub.session == n) r.subscriptions) ≡ 65536
    → route r (plain n pattern sid) [] ≡ telling Done r
full_in_use r n pattern sid is_there used long = subscribing_is r n pattern None sid true 65536 is_there used long

-- ---- out of memory

abbrev is_memory : RouteTold → Bool
is_memory NoMemory = true
is_memory _ = false

neither : (b : Bool) (x y : Routed) → is_memory x.told ≡ false → is_memory y.told ≡ false → is_memory (if b then x else y).told ≡ false
neither true x y hx hy = hx
neither false x y hx hy = hy

no_frames : (max : ℕ) (w : Waiting) → is_memory (frames_told max w) ≡ false
no_frames max (Queue frames) = refl
no_frames max (Marked length) = refl

no_collect : (max : ℕ) (r : Router) (s : Option Session) → is_memory (collect_told max r s) ≡ false
no_collect max r None = refl
no_collect max r (Some s) = no_frames max s.waiting

no_route : (r : Router) (call : RouteCall) (chosen : List Subscription) → is_memory (route r call chosen).told ≡ false
unfolding route
no_route r Open chosen = neither (r.latest + 1 == 2 ^ 62) (telling Worn r) (telling (Opened (r.latest + 1)) (opened r)) refl refl
no_route r (Close n) chosen = refl
no_route r (Options n echo headers) chosen = refl
no_route r (Sub n pattern queue sid) chosen =
    let new : Routed = telling Done (with_subscription r (new_subscription n pattern queue sid)) in
    let unused : Routed = if is_full r n then telling TooManySubs r else new in
    neither (is_open r n) (subscribing r n pattern queue sid) (telling (NoSession r.latest) r)
    (neither (is_in_use r n sid) (telling Done r) unused refl (neither (is_full r n) (telling TooManySubs r) new refl refl))
    refl
no_route r (Unsub n sid max) chosen = neither (is_open r n) (telling Done (unsubscribed r n sid max)) (telling (NoSession r.latest) r) refl refl
no_route r (Publish out None) chosen = refl
no_route r (Publish out (Some n)) chosen = neither (is_open r n) (publishing r out (Some n) chosen) (telling (NoSession r.latest) r) refl refl
no_route r (Interest subject queue) chosen = refl
no_route r (Collect n max) chosen =
    neither (is_open r n) (telling (collect_told max r (session_of r n)) (emptied r n max)) (telling (NoSession r.latest) r) (no_collect max r (session_of r n)) refl

-- a call that is out of memory is one that allocates, and changes nothing
only_where_taken : (r : Router) (call : RouteCall) (new : Router) → IsRoute r call NoMemory new → (new ≡ r) × (may_want call ≡ true)
only_where_taken r call new (inl h) = absurd (false≢true (sym (no_route r call h.chosen) ∙ ap (λ (after : Routed). is_memory after.told) h.routed))
only_where_taken r call new (inr h) = (h.same, h.may)

-- closing allocates none
close_wants_none : (r new : Router) (n : ℕ) → IsRoute r (Close n) NoMemory new → ⊥
close_wants_none r new n h = false≢true (only_where_taken r (Close n) new h).1

options_want_none : (r new : Router) (n : ℕ) (echo headers : Bool) → IsRoute r (Options n echo headers) NoMemory new → ⊥
options_want_none r new n echo headers h = false≢true (only_where_taken r (Options n echo headers) new h).1

unsub_wants_none : (r new : Router) (n : ℕ) (sid : Bytes) (max : Option ℕ) → IsRoute r (Unsub n sid max) NoMemory new → ⊥
unsub_wants_none r new n sid max h = false≢true (only_where_taken r (Unsub n sid max) new h).1

interest_wants_none : (r new : Router) (subject : Bytes) (queue : Option Bytes) → IsRoute r (Interest subject queue) NoMemory new → ⊥
interest_wants_none r new subject queue h = false≢true (only_where_taken r (Interest subject queue) new h).1

-- the others may
wanting : (r : Router) (call : RouteCall) → may_want call ≡ true → IsRoute r call NoMemory r
wanting r call may = inr (record { told_is = refl; same = refl; may = may })

open_may_want : (r : Router) → IsRoute r Open NoMemory r
open_may_want r = wanting r Open refl

sub_may_want : (r : Router) (n : ℕ) (pattern sid : Bytes) → IsRoute r (plain n pattern sid) NoMemory r
sub_may_want r n pattern sid = wanting r (plain n pattern sid) refl

publish_may_want : (r : Router) (payload : Bytes) → IsRoute r (say payload) NoMemory r
publish_may_want r payload = wanting r (say payload) refl

collect_may_want : (r : Router) (n max : ℕ) → IsRoute r (Collect n max) NoMemory r
collect_may_want r n max = wanting r (Collect n max) refl
