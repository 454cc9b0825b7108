-- What the calls of the definition leave open, and how many frames they leave waiting.
use Rattle.std.proofs.Common.{◌≡◌, inl, inr, ℕ, ◌<◌, ◌==◌, ◌||◌, Bool, true, false, cond, not, nat_lt, List, [], ◌∷◌, ◌++◌, Option, Some, None, Result, Ok, Err, length, map, filter, refl, sym, ap, ◌∙◌, arith, length-drop, eq-eqb}
use Rattle.std.specs.List.{list_any, find, fold}
use Rattle.std.proofs.lemmas.Bool.{eqb-true}
use Rattle.std.proofs.lemmas.Bool.Decides.{nat_tests}
use Rattle.js_base.specs.declared.out.Out.{Out}
use Rattle.js_base.specs.declared.frame.Frame.{Frame}
use Rattle.js_model.specs.Router as router
use Rattle.js_model.specs.Router.{Router, Session, Subscription, Waiting, Queue, Marked, RouteCall, RouteTold, Routed, IsRoute, route, telling, is_session, is_open, session_of, closed, configured, with_options, new_session, publishing, takers, routed, handed, handed_to, emptied, collected_from, without_collected, left_over, collected, collect_told, frames_told, if_open, if_publisher_open}
use Rattle.js_model.specs.declared.desk.Collected.{Collected}
use Rattle.js_model.specs.declared.desk.Collected.TheVariants as answers
use Rattle.js_model.specs.declared.route_fault.RouteFault.{RouteFault}
use Rattle.js_model.specs.Routing.{collected_told, frame_count, waiting_count, waiting_for, Opens, KeepsOpen, ClosesOne, LeavesFewer}
use Rattle.route_core.proofs.Numbers.{KeepsNumber, number_stays}
use Rattle.route_core.proofs.Handing.{handed_number}

-- ---- what each call leaves open

any_mapped : (f : Session → Session) → KeepsNumber f → (n : ℕ) (sessions : List Session) → list_any (is_session n) (map f sessions) ≡ list_any (is_session n) sessions
any_mapped f keeps n [] = refl
any_mapped f keeps n (s ∷ ss) = ap (λ k. (k == n) || list_any (is_session n) (map f ss)) (keeps s) ∙ ap (λ b. is_session n s || b) (any_mapped f keeps n ss)

configured_keeps : (r : Router) (n : ℕ) (echo headers : Bool) → KeepsOpen r (configured r n echo headers)
configured_keeps r n echo headers m = any_mapped (with_options n echo headers) (number_stays n (λ s. record s { echo = echo; headers = headers }) (λ s. refl)) m r.sessions

folded_keeps : (out : Out) (r : Router) (subs : List Subscription) → KeepsOpen r (fold (handed out) r subs)
folded_keeps out r [] m = refl
folded_keeps out r (sub ∷ subs) m = folded_keeps out (handed out r sub) subs m ∙ any_mapped (handed_to out sub) (handed_number r.sessions out sub) m r.sessions

emptied_keeps : (r : Router) (n max : ℕ) → KeepsOpen r (emptied r n max)
emptied_keeps r n max m = any_mapped (collected_from n max) (number_stays n (λ s. record s { waiting = without_collected max s.waiting }) (λ s. refl)) m r.sessions

if_open_keeps : (r : Router) (n : ℕ) (after : Routed) → KeepsOpen r after.router → KeepsOpen r (if_open r n after).router
if_open_keeps r n after h m = go (is_open r n)
  where
    go : (b : Bool) → is_open (cond b after (telling (router.NoSession r.latest) r)).router m ≡ is_open r m
    go true = h m
    go false = refl

if_publisher_open_keeps : (r : Router) (from : Option ℕ) (after : Routed) → KeepsOpen r after.router → KeepsOpen r (if_publisher_open r from after).router
if_publisher_open_keeps r None after h = h
if_publisher_open_keeps r (Some n) after h = if_open_keeps r n after h

-- what each choice leaves open, the call does
keeps_by : (r new : Router) (call : RouteCall) (told : RouteTold) → ((chosen : List Subscription) → KeepsOpen r (route r call chosen).router) → IsRoute r call told new → KeepsOpen r new
keeps_by r new call told h (inl e) m = ap (λ (x : Routed). is_open x.router m) (sym e.routed) ∙ h e.chosen m
keeps_by r new call told h (inr e) m = ap (λ x. is_open x m) e.same

pub options_keep : (r new : Router) (n : ℕ) (echo headers : Bool) (told : RouteTold) → IsRoute r (router.Options n echo headers) told new → KeepsOpen r new
unfolding route
options_keep r new n echo headers told = keeps_by r new (router.Options n echo headers) told (λ chosen. configured_keeps r n echo headers)

pub publish_keeps : (r new : Router) (out : Out) (from : Option ℕ) (told : RouteTold) → IsRoute r (router.Publish out from) told new → KeepsOpen r new
unfolding route
publish_keeps r new out from told =
    keeps_by r new (router.Publish out from) told
    (λ chosen. if_publisher_open_keeps r from (publishing r out from chosen) (folded_keeps out r (takers r out.to from chosen)))

pub collect_keeps : (r new : Router) (n max : ℕ) (told : RouteTold) → IsRoute r (router.Collect n max) told new → KeepsOpen r new
unfolding route
collect_keeps r new n max told =
    keeps_by r new (router.Collect n max) told (λ chosen. if_open_keeps r n (telling (collect_told max r (session_of r n)) (emptied r n max)) (emptied_keeps r n max))

-- ---- opening and closing

last_is_open : (n : ℕ) (s : Session) → s.number ≡ n → (sessions : List Session) → list_any (is_session n) (sessions ++ s ∷ []) ≡ true
last_is_open n s h [] = ap (λ b. b || false) (eq-eqb s.number n h)
last_is_open n s h (t ∷ ts) = go (is_session n t) (last_is_open n s h ts)
  where
    go : (b : Bool) → list_any (is_session n) (ts ++ s ∷ []) ≡ true → (b || list_any (is_session n) (ts ++ s ∷ [])) ≡ true
    go true k = refl
    go false k = k

-- nothing waits for the last session, if no other has its number
nothing_waits : (n : ℕ) (s : Session) → frame_count s.waiting ≡ 0 → (sessions : List Session) → list_any (is_session n) sessions ≡ false → waiting_count (find (is_session n) (sessions ++ s ∷ [])) ≡ 0
nothing_waits n s h [] k = go (is_session n s)
  where
    go : (b : Bool) → waiting_count (cond b (Some s) None) ≡ 0
    go true = h
    go false = refl
nothing_waits n s h (t ∷ ts) k = go (is_session n t) k (nothing_waits n s h ts)
  where
    go : (b : Bool) → (b || list_any (is_session n) ts) ≡ false → (list_any (is_session n) ts ≡ false → waiting_count (find (is_session n) (ts ++ s ∷ [])) ≡ 0)
        → waiting_count (cond b (Some t) (find (is_session n) (ts ++ s ∷ []))) ≡ 0
    go true e more = absurd (cc (e))
    go false e more = more e

-- a new session is open, and nothing waits for it
pub opens_last : (r : Router) (sessions : List Session) (n : ℕ) → r.sessions ≡ sessions ++ new_session n ∷ [] → list_any (is_session n) sessions ≡ false → Opens r n
opens_last r sessions n e h = (
  ap (list_any (is_session n)) e ∙ last_is_open n (new_session n) refl sessions,
  ap (λ ss. waiting_count (find (is_session n) ss)) e ∙ nothing_waits n (new_session n) refl sessions h,
)

none_closed : (n : ℕ) (sessions : List Session) → list_any (is_session n) (filter (λ s. not (is_session n s)) sessions) ≡ false
none_closed n [] = refl
none_closed n (s ∷ ss) = go (is_session n s) refl (none_closed n ss)
  where
    go : (b : Bool) → is_session n s ≡ b → list_any (is_session n) (filter (λ s. not (is_session n s)) ss) ≡ false
        → list_any (is_session n) (cond (not b) (s ∷ filter (λ s. not (is_session n s)) ss) (filter (λ s. not (is_session n s)) ss)) ≡ false
    go true h k = k
    go false h k = rw h k

others_closed : (n m : ℕ) → (m == n) ≡ false → (sessions : List Session) → list_any (is_session m) (filter (λ s. not (is_session n s)) sessions) ≡ list_any (is_session m) sessions
others_closed n m other [] = refl
others_closed n m other (s ∷ ss) = go (is_session n s) refl (others_closed n m other ss)
  where
    go : (b : Bool) → is_session n s ≡ b → list_any (is_session m) (filter (λ s. not (is_session n s)) ss) ≡ list_any (is_session m) ss
        → list_any (is_session m) (cond (not b) (s ∷ filter (λ s. not (is_session n s)) ss) (filter (λ s. not (is_session n s)) ss)) ≡ (is_session m s || list_any (is_session m) ss)
    go true h k =
        let at : s.number ≡ n = eqb-true s.number n h in
        let differs : is_session m s ≡ false = grind (arith, nat_tests) in
        k ∙ ap (λ b. b || list_any (is_session m) ss) (sym differs)
    go false h k = ap (λ b. is_session m s || b) k

pub close_closes : (r new : Router) (n : ℕ) → IsRoute r (router.Close n) router.Done new → ClosesOne n r new
unfolding route
close_closes r new n (inl e) =
    let same : closed r n ≡ new = ap (λ (x : Routed). x.router) e.routed in
    record {
      closed = ap (λ x. is_open x n) (sym same) ∙ none_closed n r.sessions;
      others = λ m other. ap (λ x. is_open x m) (sym same) ∙ others_closed n m other r.sessions;
    }
close_closes r new n (inr e) = absurd (let told = e.told_is in cc)

-- ---- what waits

found_mapped : (f : Session → Session) → KeepsNumber f → (n : ℕ) (sessions : List Session) (s : Session) → find (is_session n) sessions ≡ Some s
    → find (is_session n) (map f sessions) ≡ Some (f s)
found_mapped f keeps n [] s h = cc
found_mapped f keeps n (t ∷ ts) s h = go (is_session n t) (ap (λ k. k == n) (keeps t)) h (found_mapped f keeps n ts s)
  where
    go : (b : Bool) → is_session n (f t) ≡ b → cond b (Some t) (find (is_session n) ts) ≡ Some s → (find (is_session n) ts ≡ Some s → find (is_session n) (map f ts) ≡ Some (f s))
        → cond (is_session n (f t)) (Some (f t)) (find (is_session n) (map f ts)) ≡ Some (f s)
    go true e h more = ap (λ b. cond b (Some (f t)) (find (is_session n) (map f ts))) e ∙ ap (λ x. Some (f x)) (cc)
    go false e h more = ap (λ b. cond b (Some (f t)) (find (is_session n) (map f ts))) e ∙ more h

found_is : (n : ℕ) (sessions : List Session) (s : Session) → find (is_session n) sessions ≡ Some s → is_session n s ≡ true
found_is n [] s h = cc
found_is n (t ∷ ts) s h = go (is_session n t) refl h (found_is n ts s)
  where
    go : (b : Bool) → is_session n t ≡ b → cond b (Some t) (find (is_session n) ts) ≡ Some s → (find (is_session n) ts ≡ Some s → is_session n s ≡ true) → is_session n s ≡ true
    go true e h more = let same : t ≡ s = cc in rw (← same) e
    go false e h more = more h

fewer_left : (max : ℕ) (frames : List Frame) → nat_lt (length (collected max frames)) (length frames) ≡ true → length (left_over max frames) < length frames
fewer_left max [] h = cc
fewer_left max (f ∷ fs) h = omega (arith, length-drop (length (collected max (f ∷ fs))) (f ∷ fs))

fewer_wait : (max : ℕ) (waiting : Waiting) (list : List Frame) → frames_told max waiting ≡ router.Frames list true → frame_count (without_collected max waiting) < frame_count waiting
fewer_wait max (Queue frames) list h = let more : nat_lt (length (collected max frames)) (length frames) ≡ true = cc in fewer_left max frames more
fewer_wait max (Marked length) list h = absurd (cc (h))

collected_fewer : (r new : Router) (n max : ℕ) (list : List Frame) (open' : Bool) (found : Option Session) → session_of r n ≡ found
    → cond open' (telling (collect_told max r found) (emptied r n max)) (telling (router.NoSession r.latest) r) ≡ telling (router.Frames list true) new → waiting_for new n < waiting_count found
collected_fewer r new n max list false found f e = absurd (let told = ap (λ (x : Routed). x.told) e in cc)
collected_fewer r new n max list true None f e = absurd (let told = ap (λ (x : Routed). x.told) e in cc)
collected_fewer r new n max list true (Some s) f e =
    let told : frames_told max s.waiting ≡ router.Frames list true = ap (λ (x : Routed). x.told) e in
    let left : waiting_for new n ≡ frame_count (without_collected max s.waiting) =
    ap (λ (x : Routed). waiting_for x.router n) (sym e)
    ∙ ap waiting_count (found_mapped (collected_from n max) (number_stays n (λ s. record s { waiting = without_collected max s.waiting }) (λ s. refl)) n r.sessions s f)
    ∙ ap (λ b. frame_count (cond b (record s { waiting = without_collected max s.waiting }) s).waiting) (found_is n r.sessions s f) in
    omega (arith, fewer_wait max s.waiting list told)

-- a collect that leaves frames leaves fewer
leaves_fewer : (r new : Router) (n max : ℕ) (list : List Frame) → IsRoute r (router.Collect n max) (router.Frames list true) new → waiting_for new n < waiting_for r n
unfolding route
leaves_fewer r new n max list (inl e) = collected_fewer r new n max list (is_open r n) (session_of r n) refl e.routed
leaves_fewer r new n max list (inr e) = absurd (let told = e.told_is in cc)

pub collect_leaves_fewer : (r new : Router) (n max : ℕ) (result : Result Collected RouteFault) → IsRoute r (router.Collect n max) (collected_told result) new
    → LeavesFewer result (waiting_for r n) (waiting_for new n)
collect_leaves_fewer r new n max (Ok (answers.Frames list true)) h = leaves_fewer r new n max list h
collect_leaves_fewer r new n max (Ok (answers.Frames list false)) h = tt
collect_leaves_fewer r new n max (Ok (answers.Slow length)) h = tt
collect_leaves_fewer r new n max (Err fault) h = tt
