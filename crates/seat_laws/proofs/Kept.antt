-- The openers stay just those of the open sessions.
use Rattle.std.proofs.Common.{◌≡◌, ◌^◌, ◌+◌, ◌==◌, ℕ, Bool, true, false, not, cond, List, [], ◌∷◌, ◌++◌, refl, sym, ap, ◌∙◌, subst, inl, inr, arith}
use Rattle.std.specs.Prelude.{filter}
use Rattle.std.proofs.lemmas.List.{append-nil, map-append}
use Rattle.js_model.specs.Lists.{Between}
use Rattle.js_model.specs.Router as router
use Rattle.js_model.specs.Router.{Router, Session, RouteCall, RouteTold, Routed, IsRoute, RouteEntry, telling, is_session}
use Rattle.js_model.proofs.Parts.{filter_part, part_between, between_push}
use Rattle.seat_laws.specs.Seats.{Opener, SharedRouter, AreOpeners, SeatStep, SeatRun, sessions_of, open_sessions, new_openers, openers_after, without_session}
use Rattle.seat_laws.proofs.Lists.{map-filter}
use Rattle.seat_laws.proofs.Numbers.{KeepsNumbers, as_it_was, options_keep, sub_keeps, unsub_keeps, publish_keeps, interest_keeps, collect_keeps}

-- numbers that ascend from 1 to the last one that was given
abbrev AreGiven : ℕ → List ℕ → Type 0
AreGiven latest numbers = Between (λ (n : ℕ). n) 1 (latest + 1) numbers

openers_at : (s : SharedRouter) (numbers : List ℕ) (latest : ℕ) → sessions_of s.openers ≡ numbers → open_sessions s.router ≡ numbers
    → s.router.latest ≡ latest → AreGiven latest numbers
    → AreOpeners s
openers_at s numbers latest opened open' last given = record {
  same = opened ∙ sym open';
  ascending = subst (λ (l : ℕ). AreGiven l (open_sessions s.router)) (sym last) (subst (AreGiven latest) (sym open') given);
}

-- ---- one call

module _ (old new : SharedRouter) (h : AreOpeners old) where
  keeps : KeepsNumbers old.router new.router → new.openers ≡ old.openers → AreOpeners new
  keeps k e = openers_at new (open_sessions old.router) old.router.latest (ap sessions_of e ∙ h.same) k.numbers k.latest h.ascending

  opens : (seat : ℕ) → router.opened old.router ≡ new.router → new.openers ≡ old.openers ++ new_openers seat (router.Opened (old.router.latest + 1))
      → AreOpeners new
  opens seat r o =
      let latest : ℕ = old.router.latest + 1 in
      let opener : Opener = record { session = latest; seat = seat } in
      openers_at new (open_sessions old.router ++ latest ∷ []) latest
      (ap sessions_of o ∙ map-append (λ (x : Opener). x.session) old.openers (opener ∷ []) ∙ ap (λ ns. ns ++ latest ∷ []) h.same)
      (ap open_sessions (sym r) ∙ map-append (λ (x : Session). x.number) old.router.sessions (router.new_session latest ∷ []))
      (ap (λ (x : Router). x.latest) (sym r))
      (between_push (λ (n : ℕ). n) 1 latest (open_sessions old.router) latest refl h.ascending)

  closes : (n : ℕ) → router.closed old.router n ≡ new.router → new.openers ≡ without_session n old.openers → AreOpeners new
  closes n r o =
      openers_at new (filter others (open_sessions old.router)) old.router.latest
      (ap sessions_of o ∙ map-filter others (λ (x : Opener). x.session) old.openers ∙ ap (filter others) h.same)
      (ap open_sessions (sym r) ∙ map-filter others (λ (x : Session). x.number) old.router.sessions)
      (ap (λ (x : Router). x.latest) (sym r))
      (part_between (λ (m : ℕ). m) 1 (old.router.latest + 1) (filter_part others (open_sessions old.router)) h.ascending)
    where
      others : ℕ → Bool
      others m = not (m == n)

  -- an Open that opened nothing
  opens_none : (seat : ℕ) (told : RouteTold) → old.router ≡ new.router → new_openers seat told ≡ []
      → new.openers ≡ old.openers ++ new_openers seat told
      → AreOpeners new
  opens_none seat told r e o = keeps (as_it_was old.router new.router r) (o ∙ ap (λ os. old.openers ++ os) e ∙ append-nil old.openers)

  open_keeps : (seat : ℕ) (told : RouteTold) → IsRoute old.router router.Open told new.router → new.openers ≡ old.openers ++ new_openers seat told
      → AreOpeners new
  unfolding router.route
  open_keeps seat told (inl k) o = go (old.router.latest + 1 == 2 ^ 62) k.routed
    where
      answer : Bool → Routed
      answer b = cond b (telling router.Worn old.router) (telling (router.Opened (old.router.latest + 1)) (router.opened old.router))

      go : (b : Bool) → answer b ≡ telling told new.router → AreOpeners new
      go true e = opens_none seat told (ap (λ (x : Routed). x.router) e) (ap (λ (x : Routed). new_openers seat x.told) (sym e)) o
      go false e = opens seat (ap (λ (x : Routed). x.router) e) (o ∙ ap (λ (x : Routed). old.openers ++ new_openers seat x.told) (sym e))
  open_keeps seat told (inr k) o = opens_none seat told (sym k.same) (ap (new_openers seat) k.told_is) o

  close_keeps : (n : ℕ) (told : RouteTold) → IsRoute old.router (router.Close n) told new.router → new.openers ≡ without_session n old.openers
      → AreOpeners new
  unfolding router.route
  close_keeps n told (inl k) o = closes n (ap (λ (x : Routed). x.router) k.routed) o
  close_keeps n told (inr k) o = absurd (let e : false ≡ true = k.may in cc)

  call_keeps : (seat : ℕ) (call : RouteCall) (told : RouteTold) → IsRoute old.router call told new.router
      → new.openers ≡ openers_after seat call told old.openers → AreOpeners new
  call_keeps seat router.Open told k o = open_keeps seat told k o
  call_keeps seat (router.Close n) told k o = close_keeps n told k o
  call_keeps seat (router.Options n echo headers) told k o = keeps (options_keep old.router new.router n echo headers told k) o
  call_keeps seat (router.Sub n pattern queue sid) told k o = keeps (sub_keeps old.router new.router n pattern queue sid told k) o
  call_keeps seat (router.Unsub n sid max) told k o = keeps (unsub_keeps old.router new.router n sid max told k) o
  call_keeps seat (router.Publish out from) told k o = keeps (publish_keeps old.router new.router out from told k) o
  call_keeps seat (router.Interest subject queue) told k o = keeps (interest_keeps old.router new.router subject queue told k) o
  call_keeps seat (router.Collect n max) told k o = keeps (collect_keeps old.router new.router n max told k) o

-- ---- runs

pub step_keeps : (old new : SharedRouter) (entry : RouteEntry) → AreOpeners old → SeatStep old entry new → AreOpeners new
step_keeps old new entry h k = call_keeps old new h entry.seat entry.call entry.told k.route k.after

pub run_keeps : (old new : SharedRouter) (entries : List RouteEntry) → AreOpeners old → SeatRun old entries new → AreOpeners new
run_keeps old new [] h k = subst AreOpeners k h
run_keeps old new (entry ∷ entries) h k = run_keeps k.0 new entries (step_keeps old k.0 entry h k.1) k.2

pub opening : AreOpeners (record { router = router.empty_router; openers = [] })
opening = record { same = refl; ascending = omega arith }
