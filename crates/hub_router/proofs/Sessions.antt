-- A call of the router leaves a seat the sessions that it opened, but for the one that it opens or closes.
use Rattle.std.proofs.Common.{◌≡◌, ◌++◌, ◌||◌, ◌&&◌, ℕ, Bool, true, false, List, [], ◌∷◌, refl, sym, ap, subst, ◌∙◌, eq-eqb}
use Rattle.std.specs.Prelude.{◌==◌}
use Rattle.std.specs.List.{list_any}
use Rattle.std.proofs.lemmas.List.Folds.{list_any-append}
use Rattle.js_base.specs.Bytes.{has}
use Rattle.js_model.specs.Lists.{Lacks}
use Rattle.js_model.specs.Router.{RouteCall, RouteTold, RouteEntry, Open, Close, Options, Sub, Unsub, Publish, Interest, Collect, Opened}
use Rattle.seat_laws.specs.Laws.{is_by}
use Rattle.seat_laws.specs.Seats.{Opener, Openers, SharedRouter, SeatRun, has_opened, is_opener, openers_after, openers_by}
use Rattle.seat_laws.proofs.Kept.{opening, run_keeps}
use Rattle.seat_laws.proofs.Owned.{stays}
use Rattle.seat_laws.proofs.Runs.{cut, opened_by}
use Rattle.histories.specs.Entries.{Entry, Opening, OfPlace, OfRouter, OfCatalog}
use Rattle.histories.specs.Fronts.{AreForeign}
use Rattle.histories.specs.Lawful.{IsRouterHistory, new_router}
use Rattle.turn_lock.specs.Calls.{number_of}
use Rattle.turn_lock.specs.Seats.{SeatView}
use Rattle.turn_lock.specs.Views.{first_of}
use Rattle.hub_fronts.specs.Stepping.{RouterTurn, routed_by}
use Rattle.hub_fronts.specs.Turns.{HasSeen}
use Rattle.hub_router.specs.Calls.{is_own}
use Rattle.hub_router.specs.Kinds.{calls_in, openers_in}
use Rattle.hub_router.proofs.Openers.{Calls, calls, calls-append, none_by}

-- a call by which a session is neither opened nor closed
abbrev pub KeepsSessions : RouteCall → Type 0
KeepsSessions Open = ⊥
KeepsSessions (Close n) = ⊥
KeepsSessions (Options n echo headers) = Unit {0}
KeepsSessions (Sub n pattern queue sid) = Unit {0}
KeepsSessions (Unsub n sid max) = Unit {0}
KeepsSessions (Publish out from) = Unit {0}
KeepsSessions (Interest subject queue) = Unit {0}
KeepsSessions (Collect n max) = Unit {0}

-- ---- what others do

seen_same : (old inside : SeatView) (shared : SharedRouter) → SeatRun new_router (calls_in inside.front) shared → HasSeen old inside → has inside.numbers (number_of inside) ≡ true
    → (n : ℕ) → is_own inside n ≡ is_own old n
seen_same old inside shared run sees among n =
    let later : List Entry = sees.grows.later in
    let split : calls_in inside.front ≡ calls_in old.front ++ calls_in later = ap calls_in sees.grows.behind ∙ calls-append old.front later in
    let parts = cut new_router shared (calls_in old.front) (calls_in later) (subst (λ (cs : List RouteEntry). SeatRun new_router cs shared) split run) in
    let lacks : Lacks (is_by inside.numbers) (calls_in later) =
    record { none = none_by inside.numbers later (subst (λ (ns : List ℕ). AreForeign ns later) (sym sees.numbers) sees.grows.foreign) }
    in
    let same : has_opened shared.openers (number_of inside) n ≡ has_opened parts.0.openers (number_of inside) n =
    (stays inside.numbers (number_of inside) n parts.0 shared (calls_in later) (run_keeps new_router parts.0 (calls_in old.front) opening parts.1) parts.2 among lacks).0
    in
    ap (λ (os : Openers). has_opened os (number_of inside) n) (sym (opened_by new_router shared (calls_in inside.front) run))
    ∙ (same
    ∙ (ap (λ (os : Openers). has_opened os (number_of inside) n) (opened_by new_router parts.0 (calls_in old.front) parts.1)
    ∙ ap (λ (k : ℕ). has_opened (openers_in old.front) k n) (ap first_of sees.numbers)))

-- the run of what was seen before one more entry
run_before : (o : Opening) (front : List Entry) (entry : Entry) → IsRouterHistory o (front ++ entry ∷ []) → (mid : SharedRouter) × SeatRun new_router (calls_in front) mid
run_before (OfPlace state faults port) front entry (end, stands) = absurd stands
run_before (OfCatalog catalog) front entry (end, stands) = absurd stands
run_before OfRouter front entry (end, is) =
    let whole : Calls (front ++ entry ∷ []) end = calls (front ++ entry ∷ []) end is in
    let parts = cut new_router end (calls_in front) (calls_in (entry ∷ [])) (subst (λ (cs : List RouteEntry). SeatRun new_router cs end) (calls-append front (entry ∷ [])) whole.run) in
    (parts.0, parts.1)

-- ---- what the seat itself does

after_same : (seat : ℕ) (call : RouteCall) (told : RouteTold) (openers : Openers) → KeepsSessions call → openers_after seat call told openers ≡ openers
after_same seat Open told openers keeps = absurd keeps
after_same seat (Close n) told openers keeps = absurd keeps
after_same seat (Options n echo headers) told openers keeps = refl
after_same seat (Sub n pattern queue sid) told openers keeps = refl
after_same seat (Unsub n sid max) told openers keeps = refl
after_same seat (Publish out from) told openers keeps = refl
after_same seat (Interest subject queue) told openers keeps = refl
after_same seat (Collect n max) told openers keeps = refl

by-append : (openers : Openers) (a b : List RouteEntry) → openers_by openers (a ++ b) ≡ openers_by (openers_by openers a) b
by-append openers [] b = refl
by-append openers (e ∷ es) b = by-append (openers_after e.seat e.call e.told openers) es b

pub openers_left : (front : List Entry) (seat : ℕ) (call : RouteCall) (told : RouteTold) → openers_in (front ++ routed_by seat call told ∷ []) ≡ openers_after seat call told (openers_in front)
openers_left front seat call told =
    ap (openers_by []) (calls-append front (routed_by seat call told ∷ [])) ∙ by-append [] (calls_in front) (record { seat = seat; call = call; told = told } ∷ [])

-- ---- both

module _ (call : RouteCall) (told : RouteTold) (old new : SeatView) (turn : RouterTurn call told old new) where
  inside_same : (n : ℕ) → is_own turn.inside n ≡ is_own old n
  inside_same n =
      let before = run_before turn.inside.opening turn.inside.front (routed_by (number_of old) call told) turn.leaves.is_lawful in
      seen_same old turn.inside before.0 before.1 turn.sees turn.leaves.among n

  own_after : (n : ℕ) → is_own new n ≡ has_opened (openers_after (number_of old) call told (openers_in turn.inside.front)) (number_of turn.inside) n
  own_after n =
      ap (λ (s : SeatView). is_own s n) turn.leaves.behind
      ∙ ap (λ (os : Openers). has_opened os (number_of turn.inside) n) (openers_left turn.inside.front (number_of old) call told)

  -- the same sessions are the seat's own
  pub same_own : KeepsSessions call → (n : ℕ) → is_own new n ≡ is_own old n
  same_own keeps n =
      own_after n
      ∙ (ap (λ (os : Openers). has_opened os (number_of turn.inside) n) (after_same (number_of old) call told (openers_in turn.inside.front) keeps) ∙ inside_same n)

either_true : (a b : Bool) → b ≡ true → (a || b) ≡ true
either_true true b h = refl
either_true false b h = h

-- one that the seat opened is its own
pub opened_own : (session : ℕ) (old new : SeatView) → RouterTurn Open (Opened session) old new → is_own new session ≡ true
opened_own session old new turn =
    let number : ℕ = number_of turn.inside in
    let mine : Opener = record { session = session; seat = number_of old } in
    own_after Open (Opened session) old new turn session
    ∙ (list_any-append (is_opener number session) (openers_in turn.inside.front) (mine ∷ [])
    ∙ either_true (list_any (is_opener number session) (openers_in turn.inside.front)) (list_any (is_opener number session) (mine ∷ [])) (own_one number (ap first_of (sym turn.sees.numbers))))
  where
    own_one : (number : ℕ) → number_of old ≡ number → list_any (is_opener number session) (record { session = session; seat = number_of old } ∷ []) ≡ true
    own_one number same =
        subst (λ (k : ℕ). list_any (is_opener k session) (record { session = session; seat = number_of old } ∷ []) ≡ true) same
        (ap (λ (b : Bool). (b && (number_of old == number_of old)) || false) (eq-eqb session session refl) ∙ ap (λ (b : Bool). b || false) (eq-eqb (number_of old) (number_of old) refl))
