-- Passes that became one: at each lock their seats did.
use Rattle.std.proofs.Common.{◌≡◌, ◌<◌, ◌+◌, ◌++◌, ◌||◌, ℕ, zero, suc, Bool, true, false, List, [], ◌∷◌, map, Option, None, Some, refl, sym, ap, subst, ◌∙◌, inl, inr, arith}
use Rattle.std.specs.Prelude.{slice_get}
use Rattle.std.specs.List.{AllZip}
use Rattle.js_base.specs.Bytes.{has}
use Rattle.histories.specs.Entries.{Entry}
use Rattle.turn_lock.specs.Calls.{HasAll, IsJoined}
use Rattle.turn_lock.specs.Seats.{LockView, SeatView}
use Rattle.hub_fronts.specs.Fronts.{SharedScene}
use Rattle.shared_desk.specs.Histories.{all_numbers}
use Rattle.shared_desk.specs.Hubs.{HubView}
use Rattle.shared_desk.specs.Joining.{HasAllSeats, HaveAll, IsPassJoined, TakesIn}
use Rattle.shared_desk.specs.Passes.{AreAllPasses, IsPassOf, catalog_numbers, numbers_by, numbers_if, place_numbers, port_numbers, put_before, router_numbers, seats_at}
use Rattle.shared_desk.specs.Seats.{AllThree, IsSeatOf}
use Rattle.shared_desk.proofs.Gathering.{Gathers, gathers_more, gathers_one}

abbrev pub routers : List SharedScene → List SeatView
routers passes = map (λ (pass : SharedScene). pass.fronts.router) passes

abbrev pub catalogs : List SharedScene → List SeatView
catalogs passes = map (λ (pass : SharedScene). pass.fronts.catalog) passes

-- at the places from a number on
abbrev pub GathersRow : ℕ → List SharedScene → List SeatView → Type 0
GathersRow n passes [] = Unit {0}
GathersRow n passes (seat ∷ seats) = Gathers (seats_at n passes) seat × GathersRow (suc n) passes seats

pub record GathersPass (passes : List SharedScene) (all : SharedScene) : Type 0 where
  pub router : Gathers (routers passes) all.fronts.router
  pub catalog : Gathers (catalogs passes) all.fronts.catalog
  pub places : GathersRow 0 passes all.fronts.places

-- a row is what another one is from a number on
abbrev IsFrom : List SeatView → ℕ → List SeatView → Type 0
IsFrom row n whole = (k m : ℕ) → m ≡ n + k → slice_get row k ≡ slice_get whole m

from_head : (seat : SeatView) (row : List SeatView) (n : ℕ) (whole : List SeatView) → IsFrom (seat ∷ row) n whole → slice_get whole n ≡ Some seat
from_head seat row n whole h = sym (h 0 n (omega arith))

from_tail : (seat : SeatView) (row : List SeatView) (n : ℕ) (whole : List SeatView) → IsFrom (seat ∷ row) n whole → IsFrom row (suc n) whole
from_tail seat row n whole h = λ k m e. h (suc k) m (omega (arith, e))

from_whole : (whole : List SeatView) → IsFrom whole 0 whole
from_whole whole = λ k m e. ap (λ (i : ℕ). slice_get whole i) (sym (let same : m ≡ k = omega (arith, e) in same))

-- ---- one pass

one_row : (pass : SharedScene) (n : ℕ) (row : List SeatView) → IsFrom row n pass.fronts.places → GathersRow n (pass ∷ []) row
one_row pass n [] from = tt
one_row pass n (seat ∷ row) from = (
  subst (λ (o : Option SeatView). Gathers (put_before o []) seat) (sym (from_head seat row n pass.fronts.places from)) (gathers_one seat),
  one_row pass (suc n) row (from_tail seat row n pass.fronts.places from),
)

pub gathers_pass : (pass : SharedScene) → GathersPass (pass ∷ []) pass
gathers_pass pass = record { router = gathers_one pass.fronts.router; catalog = gathers_one pass.fronts.catalog; places = one_row pass 0 pass.fronts.places (from_whole pass.fronts.places) }

-- ---- one more pass

more_row : (pass : SharedScene) (passes : List SharedScene) (n : ℕ) (ones alls news : List SeatView) → IsFrom ones n pass.fronts.places → AllThree IsJoined ones alls news → GathersRow n passes alls
    → GathersRow n (pass ∷ passes) news
more_row pass passes n [] [] [] from joined g = tt
more_row pass passes n [] [] (new ∷ news) from joined g = absurd joined
more_row pass passes n [] (all ∷ alls) news from joined g = absurd joined
more_row pass passes n (one ∷ ones) [] news from joined g = absurd joined
more_row pass passes n (one ∷ ones) (all ∷ alls) [] from joined g = absurd joined
more_row pass passes n (one ∷ ones) (all ∷ alls) (new ∷ news) from joined g = (
  subst (λ (o : Option SeatView). Gathers (put_before o (seats_at n passes)) new) (sym (from_head one ones n pass.fronts.places from)) (gathers_more one all new joined.0 (seats_at n passes) g.0),
  more_row pass passes (suc n) ones alls news (from_tail one ones n pass.fronts.places from) joined.1 g.1,
)

pub gathers_pass_more : (pass : SharedScene) (passes : List SharedScene) (all new : SharedScene) → IsPassJoined pass all new → GathersPass passes all → GathersPass (pass ∷ passes) new
gathers_pass_more pass passes all new joined g = record {
  router = gathers_more pass.fronts.router all.fronts.router new.fronts.router joined.router (routers passes) g.router;
  catalog = gathers_more pass.fronts.catalog all.fronts.catalog new.fronts.catalog joined.catalog (catalogs passes) g.catalog;
  places = more_row pass passes 0 pass.fronts.places all.fronts.places new.fronts.places (from_whole pass.fronts.places) joined.places g.places;
}

-- ---- all seats of the locks

router_numbers_are : (passes : List SharedScene) → all_numbers (routers passes) ≡ numbers_by router_numbers passes
router_numbers_are [] = refl
router_numbers_are (pass ∷ passes) = ap (λ (ns : List ℕ). pass.fronts.router.numbers ++ ns) (router_numbers_are passes)

catalog_numbers_are : (passes : List SharedScene) → all_numbers (catalogs passes) ≡ numbers_by catalog_numbers passes
catalog_numbers_are [] = refl
catalog_numbers_are (pass ∷ passes) = ap (λ (ns : List ℕ). pass.fronts.catalog.numbers ++ ns) (catalog_numbers_are passes)

put_numbers : (o : Option SeatView) (seats : List SeatView) → all_numbers (put_before o seats) ≡ numbers_if o ++ all_numbers seats
put_numbers None seats = refl
put_numbers (Some seat) seats = refl

place_numbers_are : (n : ℕ) (passes : List SharedScene) → all_numbers (seats_at n passes) ≡ numbers_by (place_numbers n) passes
place_numbers_are n [] = refl
place_numbers_are n (pass ∷ passes) =
    put_numbers (slice_get pass.fronts.places n) (seats_at n passes) ∙ ap (λ (ns : List ℕ). numbers_if (slice_get pass.fronts.places n) ++ ns) (place_numbers_are n passes)

-- ---- the ports, and then the seat of all passes

pub gathers_ports : (seats : List SeatView) (seat : SeatView) (ports : List SeatView) (all : SeatView) → Gathers seats seat → TakesIn seat ports all → Gathers (ports ++ seats) all
gathers_ports seats seat [] all g taken = subst (Gathers seats) taken g
gathers_ports seats seat (port ∷ ports) all g taken = gathers_more port taken.0 all taken.2 (ports ++ seats) (gathers_ports seats seat ports taken.0 g taken.1)

-- ---- all of them are there

have_each : (n : ℕ) (locks : List LockView) (passes : List SharedScene) (seats : List SeatView) (whole : List LockView) → ((k m : ℕ) → m ≡ n + k → slice_get locks k ≡ slice_get whole m)
    → ((m : ℕ) (of : LockView) → slice_get whole m ≡ Some of → HasAll of.seats (numbers_by (place_numbers m) passes)) → AllZip IsSeatOf locks seats → GathersRow n passes seats → HaveAll locks seats
have_each n [] passes [] whole from all of g = tt
have_each n [] passes (seat ∷ seats) whole from all of g = absurd of
have_each n (lock ∷ locks) passes [] whole from all of g = absurd of
have_each n (lock ∷ locks) passes (seat ∷ seats) whole from all of g = (
  subst (HasAll lock.seats) (sym (place_numbers_are n passes) ∙ sym g.0.numbers) (all n lock (sym (from 0 n (omega arith)))),
  have_each (suc n) locks passes seats whole (λ k m e. from (suc k) m (omega (arith, e))) all of.1 g.1,
)

pub has_all_seats : (hub : HubView) (passes : List SharedScene) (all : SharedScene) → AreAllPasses hub passes → IsPassOf hub all → GathersPass passes all → HasAllSeats hub all
has_all_seats hub passes all are of g = record {
  are_of = of;
  router =
      subst (λ (ns : List ℕ). HasAll hub.router.seats (ns ++ port_numbers hub.places)) (sym (router_numbers_are passes) ∙ sym g.router.numbers) are.router;
  catalog = subst (HasAll hub.catalog.seats) (sym (catalog_numbers_are passes) ∙ sym g.catalog.numbers) are.catalog;
  places = have_each 0 hub.places passes all.fronts.places hub.places (λ k m e. ap (λ (i : ℕ). slice_get hub.places i) (let same : k ≡ m = omega (arith, e) in same)) are.places of.places g.places;
}
