-- A call for an open session is not told that there is no such session.
use Rattle.std.proofs.Common.{◌≡◌, ◌+◌, ◌^◌, ◌==◌, ◌||◌, ℕ, Bool, true, false, cond, List, [], ◌∷◌, Option, Some, None, sym, ap, ◌∙◌, inl, inr}
use Rattle.std.specs.Prelude.{⊤, find}
use Rattle.std.specs.List.{list_any}
use Rattle.js_model.specs.Router as router
use Rattle.js_model.specs.Router.{Router, Session, Subscription, Waiting, RouteCall, RouteTold, Routed, RouteEntry, NoSession, telling, is_session, is_open}
use Rattle.seat_laws.specs.Seats.{SharedRouter, AreOpeners, MayName, SeatStep, named}
use Rattle.seat_laws.proofs.Owned.{stands_open}

abbrev IsOther : ℕ → RouteTold → Type 0
IsOther latest told = told ≡ NoSession latest → ⊥

-- the session that is named is open
abbrev IsOpenFor : Router → Option ℕ → Type 0
IsOpenFor r None = ⊤
IsOpenFor r (Some n) = is_open r n ≡ true

module _ (latest : ℕ) (r : Router) where
  if_open_other : (n : ℕ) (after : Routed) → is_open r n ≡ true → IsOther latest after.told → IsOther latest (router.if_open r n after).told
  if_open_other n after is_open' h = go (is_open r n) is_open'
    where
      go : (b : Bool) → b ≡ true → IsOther latest (cond b after (telling (NoSession r.latest) r)).told
      go true e = h
      go false e = cc

  open_other : (b : Bool) → IsOther latest (cond b (telling router.Worn r) (telling (router.Opened (r.latest + 1)) (router.opened r))).told
  open_other true e = cc
  open_other false e = cc

  subscribing_other : (a b : Bool) (added : Router)
      → IsOther latest (cond a (telling router.Done r) (cond b (telling router.TooManySubs r) (telling router.Done added))).told
  subscribing_other true b added e = cc
  subscribing_other false true added e = cc
  subscribing_other false false added e = cc

  frames_other : (max : ℕ) (waiting : Waiting) → IsOther latest (router.frames_told max waiting)
  frames_other max (router.Queue frames) e = cc
  frames_other max (router.Marked length) e = cc

  collect_other : (n max : ℕ) (sessions : List Session) → list_any (is_session n) sessions ≡ true
      → IsOther latest (router.collect_told max r (find (is_session n) sessions))
  collect_other n max [] h = cc
  collect_other n max (s ∷ ss) h = go (is_session n s) h (collect_other n max ss)
    where
      go : (b : Bool) → (b || list_any (is_session n) ss) ≡ true
          → (list_any (is_session n) ss ≡ true → IsOther latest (router.collect_told max r (find (is_session n) ss)))
          → IsOther latest (router.collect_told max r (cond b (Some s) (find (is_session n) ss)))
      go true k more = frames_other max s.waiting
      go false k more = more k

  route_other : (call : RouteCall) (chosen : List Subscription) → IsOpenFor r (named call) → IsOther latest (router.route r call chosen).told
  unfolding router.route
  route_other router.Open chosen h = open_other (r.latest + 1 == 2 ^ 62)
  route_other (router.Close n) chosen h = λ e. cc
  route_other (router.Options n echo headers) chosen h = λ e. cc
  route_other (router.Sub n pattern queue sid) chosen h =
      if_open_other n (router.subscribing r n pattern queue sid) h
      (subscribing_other (router.is_in_use r n sid) (router.is_full r n) (router.with_subscription r (router.new_subscription n pattern queue sid)))
  route_other (router.Unsub n sid max) chosen h = if_open_other n (telling router.Done (router.unsubscribed r n sid max)) h (λ e. cc)
  route_other (router.Publish out None) chosen h = λ e. cc
  route_other (router.Publish out (Some n)) chosen h = if_open_other n (router.publishing r out (Some n) chosen) h (λ e. cc)
  route_other (router.Interest subject queue) chosen h = λ e. cc
  route_other (router.Collect n max) chosen h =
      if_open_other n (telling (router.collect_told max r (router.session_of r n)) (router.emptied r n max)) h (collect_other n max r.sessions h)

open_for : (s : SharedRouter) (seat : ℕ) (session : Option ℕ) → AreOpeners s → MayName s.openers seat session → IsOpenFor s.router session
open_for s seat None h may = tt
open_for s seat (Some n) h may = stands_open s seat n h may

pub answered : (old new : SharedRouter) (entry : RouteEntry) (latest : ℕ) → AreOpeners old → SeatStep old entry new → entry.told ≡ NoSession latest
    → ⊥
answered old new entry latest h k e = go k.route
  where
    go : router.IsRoute old.router entry.call entry.told new.router → ⊥
    go (inl c) =
        let open_so : IsOpenFor old.router (named entry.call) = open_for old entry.seat (named entry.call) h k.may in
        route_other latest old.router entry.call c.chosen open_so (ap (λ (x : Routed). x.told) c.routed ∙ e)
    go (inr c) = let f : router.NoMemory ≡ NoSession latest = sym c.told_is ∙ e in cc
