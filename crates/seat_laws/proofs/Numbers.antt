-- Which calls leave the numbers of the open sessions as they are, and the last number that was given.
use Rattle.std.proofs.Common.{◌≡◌, ℕ, Bool, true, false, cond, List, [], ◌∷◌, Option, Some, None, map, refl, sym, ap, ◌∙◌, subst, inl, inr}
use Rattle.js_base.specs.Bytes.{Bytes}
use Rattle.js_base.specs.declared.out.Out.{Out}
use Rattle.js_model.specs.Router as router
use Rattle.js_model.specs.Router.{Router, Session, Subscription, RouteCall, RouteTold, Routed, IsRoute, telling, is_session, is_open, with_frame, frame_for, without_collected}
use Rattle.seat_laws.specs.Seats.{open_sessions}

pub record KeepsNumbers (r new : Router) : Type 0 where
  pub numbers : open_sessions new ≡ open_sessions r
  pub latest : new.latest ≡ r.latest

pub as_it_was : (r new : Router) → r ≡ new → KeepsNumbers r new
as_it_was r new e = subst (KeepsNumbers r) e (record { numbers = refl; latest = refl })

-- ---- sessions that are changed in place

-- a change of the sessions of this number, which leaves the number
numbers-map : (n : ℕ) (change : Session → Session) → ((s : Session) → (change s).number ≡ s.number) → (sessions : List Session)
    → map (λ (s : Session). s.number) (map (λ s. cond (is_session n s) (change s) s) sessions) ≡ map (λ (s : Session). s.number) sessions
numbers-map n change keeps [] = refl
numbers-map n change keeps (s ∷ ss) = go (is_session n s) (numbers-map n change keeps ss)
  where
    numbers : List Session → List ℕ
    numbers xs = map (λ (x : Session). x.number) xs

    go : (b : Bool) → numbers (map (λ x. cond (is_session n x) (change x) x) ss) ≡ numbers ss
        → (cond b (change s) s).number ∷ numbers (map (λ x. cond (is_session n x) (change x) x) ss) ≡ s.number ∷ numbers ss
    go true h = ap (λ k. k ∷ numbers (map (λ x. cond (is_session n x) (change x) x) ss)) (keeps s) ∙ ap (λ ks. s.number ∷ ks) h
    go false h = ap (λ ks. s.number ∷ ks) h

configured_keeps : (r : Router) (n : ℕ) (echo headers : Bool) → KeepsNumbers r (router.configured r n echo headers)
configured_keeps r n echo headers = record {
  numbers = numbers-map n (λ s. record s { echo = echo; headers = headers }) (λ s. refl) r.sessions;
  latest = refl;
}

emptied_keeps : (r : Router) (n max : ℕ) → KeepsNumbers r (router.emptied r n max)
emptied_keeps r n max = record {
  numbers = numbers-map n (λ s. record s { waiting = without_collected max s.waiting }) (λ s. refl) r.sessions;
  latest = refl;
}

routed_keeps : (out : Out) (r : Router) (subs : List Subscription) → KeepsNumbers r (router.routed r out subs)
routed_keeps out r [] = as_it_was r r refl
routed_keeps out r (sub ∷ subs) =
    let later = routed_keeps out (router.handed out r sub) subs in
    let given : Session → Session = λ s. record s { waiting = with_frame (frame_for out sub.sid s.headers) s.waiting } in
    record { numbers = later.numbers ∙ numbers-map sub.session given (λ s. refl) r.sessions; latest = later.latest }

-- ---- one call

subscribing_keeps : (r : Router) (n : ℕ) (pattern : Bytes) (queue : Option Bytes) (sid : Bytes)
    → KeepsNumbers r (router.subscribing r n pattern queue sid).router
subscribing_keeps r n pattern queue sid = go (router.is_in_use r n sid) (router.is_full r n)
  where
    added : Router
    added = router.with_subscription r (router.new_subscription n pattern queue sid)

    go : (a b : Bool) → KeepsNumbers r (cond a (telling router.Done r) (cond b (telling router.TooManySubs r) (telling router.Done added))).router
    go true b = as_it_was r r refl
    go false true = as_it_was r r refl
    go false false = record { numbers = refl; latest = refl }

unsubscribed_keeps : (r : Router) (n : ℕ) (sid : Bytes) (max : Option ℕ) → KeepsNumbers r (router.unsubscribed r n sid max)
unsubscribed_keeps r n sid None = record { numbers = refl; latest = refl }
unsubscribed_keeps r n sid (Some max) = record { numbers = refl; latest = refl }

if_open_keeps : (r : Router) (n : ℕ) (after : Routed) → KeepsNumbers r after.router → KeepsNumbers r (router.if_open r n after).router
if_open_keeps r n after h = go (is_open r n)
  where
    go : (b : Bool) → KeepsNumbers r (cond b after (telling (router.NoSession r.latest) r)).router
    go true = h
    go false = as_it_was r r refl

if_publisher_open_keeps : (r : Router) (from : Option ℕ) (after : Routed) → KeepsNumbers r after.router
    → KeepsNumbers r (router.if_publisher_open r from after).router
if_publisher_open_keeps r None after h = h
if_publisher_open_keeps r (Some n) after h = if_open_keeps r n after h

-- what each choice keeps, the call does
keeps_by : (r new : Router) (call : RouteCall) (told : RouteTold)
    → ((chosen : List Subscription) → KeepsNumbers r (router.route r call chosen).router) → IsRoute r call told new → KeepsNumbers r new
keeps_by r new call told h (inl e) = subst (λ (x : Routed). KeepsNumbers r x.router) e.routed (h e.chosen)
keeps_by r new call told h (inr e) = as_it_was r new (sym e.same)

pub options_keep : (r new : Router) (n : ℕ) (echo headers : Bool) (told : RouteTold) → IsRoute r (router.Options n echo headers) told new
    → KeepsNumbers r new
unfolding router.route
options_keep r new n echo headers told = keeps_by r new (router.Options n echo headers) told (λ chosen. configured_keeps r n echo headers)

pub sub_keeps : (r new : Router) (n : ℕ) (pattern : Bytes) (queue : Option Bytes) (sid : Bytes) (told : RouteTold)
    → IsRoute r (router.Sub n pattern queue sid) told new → KeepsNumbers r new
unfolding router.route
sub_keeps r new n pattern queue sid told =
    keeps_by r new (router.Sub n pattern queue sid) told
    (λ chosen. if_open_keeps r n (router.subscribing r n pattern queue sid) (subscribing_keeps r n pattern queue sid))

pub unsub_keeps : (r new : Router) (n : ℕ) (sid : Bytes) (max : Option ℕ) (told : RouteTold) → IsRoute r (router.Unsub n sid max) told new
    → KeepsNumbers r new
unfolding router.route
unsub_keeps r new n sid max told =
    keeps_by r new (router.Unsub n sid max) told
    (λ chosen. if_open_keeps r n (telling router.Done (router.unsubscribed r n sid max)) (unsubscribed_keeps r n sid max))

pub publish_keeps : (r new : Router) (out : Out) (from : Option ℕ) (told : RouteTold) → IsRoute r (router.Publish out from) told new
    → KeepsNumbers r new
unfolding router.route
publish_keeps r new out from told =
    keeps_by r new (router.Publish out from) told
    (λ chosen. if_publisher_open_keeps r from (router.publishing r out from chosen) (routed_keeps out r (router.takers r out.to from chosen)))

pub interest_keeps : (r new : Router) (subject : Bytes) (queue : Option Bytes) (told : RouteTold)
    → IsRoute r (router.Interest subject queue) told new → KeepsNumbers r new
unfolding router.route
interest_keeps r new subject queue told = keeps_by r new (router.Interest subject queue) told (λ chosen. as_it_was r r refl)

pub collect_keeps : (r new : Router) (n max : ℕ) (told : RouteTold) → IsRoute r (router.Collect n max) told new → KeepsNumbers r new
unfolding router.route
collect_keeps r new n max told =
    keeps_by r new (router.Collect n max) told
    (λ chosen. if_open_keeps r n (telling (router.collect_told max r (router.session_of r n)) (router.emptied r n max)) (emptied_keeps r n max))
