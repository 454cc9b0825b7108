-- Who opened the sessions of a router, by the calls of its history.
use Rattle.std.proofs.Common.{◌≡◌, ◌||◌, ℕ, Bool, true, false, List, [], ◌∷◌, ◌++◌, map, Option, Some, None, IfSome, refl, sym, ap, subst, ◌∙◌}
use Rattle.std.specs.List.{list_any}
use Rattle.js_base.specs.Bytes.{has}
use Rattle.js_model.specs.Lists.{Lacks}
use Rattle.js_model.specs.Router.{Router, RouteCall, RouteTold, RouteEntry, IsRoute, is_open}
use Rattle.seat_laws.specs.Laws.{IsOwn, is_by}
use Rattle.seat_laws.specs.Seats.{Openers, SharedRouter, MayName, SeatStep, SeatRun, has_opened, named, openers_after}
use Rattle.seat_laws.proofs.Kept.{opening, run_keeps}
use Rattle.seat_laws.proofs.Owned.{stays}
use Rattle.seat_laws.proofs.Runs.{cut, joined, opened_by}
use Rattle.histories.specs.Entries.{Entry, AtPlace, AtRouter, AtCatalog, Opening, OfPlace, OfRouter, OfCatalog}
use Rattle.histories.specs.Fronts.{AreForeign}
use Rattle.histories.specs.Lawful.{IsRouterRun, new_router}
use Rattle.turn_lock.specs.Calls.{number_of}
use Rattle.turn_lock.specs.Views.{first_of}
use Rattle.turn_lock.specs.Seats.{SeatView}
use Rattle.hub_fronts.specs.Stepping.{routed_by}
use Rattle.hub_fronts.specs.Turns.{HasSeen}
use Rattle.hub_router.specs.Calls.{MayCall, IsForOpen}
use Rattle.hub_router.specs.Kinds.{RouterIs, calls_in, openers_in}

-- ---- the calls of a history

pub calls-append : (a b : List Entry) → calls_in (a ++ b) ≡ calls_in a ++ calls_in b
calls-append [] b = refl
calls-append (AtPlace step ∷ more) b = calls-append more b
calls-append (AtRouter call ∷ more) b = ap (λ (calls : List RouteEntry). call ∷ calls) (calls-append more b)
calls-append (AtCatalog call ∷ more) b = calls-append more b

calls_of : (calls : List RouteEntry) → calls_in (map AtRouter calls) ≡ calls
calls_of [] = refl
calls_of (call ∷ calls) = ap (λ (more : List RouteEntry). call ∷ more) (calls_of calls)

map-append : (a b : List RouteEntry) → map AtRouter (a ++ b) ≡ map AtRouter a ++ map AtRouter b
map-append [] b = refl
map-append (call ∷ calls) b = ap (λ (more : List Entry). AtRouter call ∷ more) (map-append calls b)

either_false : (a b : Bool) → a ≡ false → b ≡ false → (a || b) ≡ false
either_false true b f g = let no : ⊥ = cc in absurd no
either_false false b f g = g

pub none_by : (numbers : List ℕ) (later : List Entry) → AreForeign numbers later → list_any (is_by numbers) (calls_in later) ≡ false
none_by numbers [] f = refl
none_by numbers (AtPlace step ∷ more) f = none_by numbers more f.1
none_by numbers (AtRouter call ∷ more) f = either_false (has numbers call.seat) (list_any (is_by numbers) (calls_in more)) f.0 (none_by numbers more f.1)
none_by numbers (AtCatalog call ∷ more) f = none_by numbers more f.1

-- ---- the openers

-- a history of a router, as the calls that it is
pub record Calls (entries : List Entry) (shared : SharedRouter) : Type 0 where
  pub run : SeatRun new_router (calls_in entries) shared
  pub openers : shared.openers ≡ openers_in entries

pub calls : (entries : List Entry) (shared : SharedRouter) → IsRouterRun new_router entries shared → Calls entries shared
calls entries shared is =
    let run : SeatRun new_router (calls_in entries) shared =
    subst (λ (cs : List RouteEntry). SeatRun new_router cs shared) (sym (ap calls_in is.same ∙ calls_of is.calls)) is.run
    in
    record { run = run; openers = opened_by new_router shared (calls_in entries) run }

-- ---- a call that a seat may make

-- what is known as the seat is inside
pub record MayInside (inside : SeatView) (call : RouteCall) (router : Router) : Type 0 where
  pub may : MayCall inside call
  pub for_open : IsForOpen router call

named_inside : (old inside : SeatView) (router : Router) (openers : Openers) (n : ℕ) → IsRouterRun new_router inside.front (record { router = router; openers = openers })
    → HasSeen old inside → has inside.numbers (number_of inside) ≡ true → has_opened (openers_in old.front) (number_of old) n ≡ true
    → (has_opened (openers_in inside.front) (number_of inside) n ≡ true) × (is_open router n ≡ true)
named_inside old inside router openers n is sees among own =
    let shared : SharedRouter = record { router = router; openers = openers } in
    let whole = calls inside.front shared is in
    let later : List Entry = sees.grows.later in
    let split : calls_in inside.front ≡ calls_in old.front ++ calls_in later = ap calls_in sees.grows.behind ∙ calls-append old.front later in
    let parts = cut new_router shared (calls_in old.front) (calls_in later) (subst (λ (cs : List RouteEntry). SeatRun new_router cs shared) split whole.run) in
    let mid : SharedRouter = parts.0 in
    let same : number_of old ≡ number_of inside = ap first_of (sym sees.numbers) in
    let owned : has_opened mid.openers (number_of inside) n ≡ true =
    ap (λ (os : Openers). has_opened os (number_of inside) n) (opened_by new_router mid (calls_in old.front) parts.1)
    ∙ (ap (λ (k : ℕ). has_opened (openers_in old.front) k n) (sym same) ∙ own)
    in
    let lacks : Lacks (is_by inside.numbers) (calls_in later) =
    record { none = none_by inside.numbers later (subst (λ (ns : List ℕ). AreForeign ns later) (sym sees.numbers) sees.grows.foreign) }
    in
    let stay = stays inside.numbers (number_of inside) n mid shared (calls_in later) (run_keeps new_router mid (calls_in old.front) opening parts.1) parts.2 among lacks in
    let is_own : IsOwn (number_of inside) n shared = stay.1 owned in
    (ap (λ (os : Openers). has_opened os (number_of inside) n) (sym whole.openers) ∙ is_own.own, is_own.session_open)

inside_by : (old inside : SeatView) (router : Router) (o : Opening) (name : Option ℕ) → RouterIs o inside.front router → HasSeen old inside
    → has inside.numbers (number_of inside) ≡ true → MayName (openers_in old.front) (number_of old) name
    → MayName (openers_in inside.front) (number_of inside) name × IfSome name (λ n. is_open router n ≡ true)
inside_by old inside router (OfPlace state faults lock) name stands sees among may = absurd stands.1
inside_by old inside router (OfCatalog catalog) name stands sees among may = absurd stands.1
inside_by old inside router OfRouter None stands sees among may = (tt, tt)
inside_by old inside router OfRouter (Some n) stands sees among may = named_inside old inside router stands.0 n stands.1 sees among may

pub may_inside : (old inside : SeatView) (call : RouteCall) (router : Router) → RouterIs inside.opening inside.front router → HasSeen old inside
    → has inside.numbers (number_of inside) ≡ true → MayCall old call → MayInside inside call router
may_inside old inside call router stands sees among may =
    let by = inside_by old inside router inside.opening (named call) stands sees among may in record { may = by.0; for_open = by.1 }

-- ---- the router after a call

after_by : (o : Opening) (front : List Entry) (number : ℕ) (call : RouteCall) (told : RouteTold) (was is : Router) → RouterIs o front was → IsRoute was call told is
    → MayName (openers_in front) number (named call) → RouterIs o (front ++ routed_by number call told ∷ []) is
after_by (OfPlace state faults lock) front number call told was is stands route may = absurd stands.1
after_by (OfCatalog catalog) front number call told was is stands route may = absurd stands.1
after_by OfRouter front number call told was is (openers, run) route may =
    let entry : RouteEntry = record { seat = number; call = call; told = told } in
    let shared : SharedRouter = record { router = was; openers = openers } in
    let next : SharedRouter = record { router = is; openers = openers_after number call told openers } in
    let named_own : MayName openers number (named call) = subst (λ (os : Openers). MayName os number (named call)) (sym (calls front shared run).openers) may in
    let step : SeatStep shared entry next = record { route = route; may = named_own; after = refl } in (
      next.openers,
      record {
        calls = run.calls ++ entry ∷ [];
        same = ap (λ (es : List Entry). es ++ AtRouter entry ∷ []) run.same ∙ sym (map-append run.calls (entry ∷ []));
        run = joined new_router shared next run.calls (entry ∷ []) run.run (next, step, refl);
      },
    )

pub stands_after : (seat : SeatView) (call : RouteCall) (told : RouteTold) (was is : Router) → RouterIs seat.opening seat.front was → IsRoute was call told is
    → MayCall seat call → RouterIs seat.opening (seat.front ++ routed_by (number_of seat) call told ∷ []) is
stands_after seat call told was is stands route may = after_by seat.opening seat.front (number_of seat) call told was is stands route may
