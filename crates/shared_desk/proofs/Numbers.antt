-- Seats keep their numbers, and all passes of a hub stay all of it.
use Rattle.std.proofs.Common.{◌≡◌, ◌++◌, ◌⊎◌, ℕ, zero, suc, Bool, true, false, List, [], ◌∷◌, Some, refl, sym, ap, subst, ◌∙◌, inl, inr}
use Rattle.std.specs.Prelude.{slice_get, slice_set}
use Rattle.std.specs.List.{AllZip}
use Rattle.js_model.specs.Catalog.{At, CatCall, CatTold, NextUsed}
use Rattle.js_api.specs.Entries.{DeskEntry, Routed, Looked, Turned, Resumed, Held, Stirred, Halted, Missed, Spent}
use Rattle.js_api.specs.Leading.{Leads}
use Rattle.histories.specs.Entries.{Entry, Opening}
use Rattle.histories.specs.Lawful.{IsCatalogHistory, IsPlaceHistory, IsRouterHistory}
use Rattle.turn_lock.specs.Calls.{HasAll}
use Rattle.turn_lock.specs.Seats.{SeatView}
use Rattle.hub_fronts.specs.Fronts.{Fronts, SharedScene}
use Rattle.hub_fronts.specs.Making.{HaveSeen, MakesOne, SeesMore}
use Rattle.hub_fronts.specs.Stepping.{AtTheCatalog, AtThePlace, AtTheRouter, CatalogTurn, HaltsThere, HoldsThere, IsSpent, MissesThere, RouterTurn, SharedStep, StirsThere, Wears}
use Rattle.hub_fronts.specs.Turns.{Leaves, TakesTurn}
use Rattle.shared_desk.specs.Laws.{KeepsNumbers, LawAll, LawNumbers}
use Rattle.shared_desk.specs.Passes.{catalog_numbers, numbers_by, numbers_if, place_numbers, port_numbers, router_numbers}

abbrev Same : SeatView → SeatView → Type 0
Same was is = is.numbers ≡ was.numbers

-- ---- rows

all_same : (seats : List SeatView) → AllZip Same seats seats
all_same [] = tt
all_same (s ∷ seats) = (refl, all_same seats)

all_both : (a b c : List SeatView) → AllZip Same a b → AllZip Same b c → AllZip Same a c
all_both [] [] [] f g = tt
all_both [] [] (z ∷ zs) f g = absurd g
all_both [] (y ∷ ys) c f g = absurd f
all_both (x ∷ xs) [] c f g = absurd f
all_both (x ∷ xs) (y ∷ ys) [] f g = absurd g
all_both (x ∷ xs) (y ∷ ys) (z ∷ zs) f g = (g.0 ∙ f.0, all_both xs ys zs f.1 g.1)

all_seen : (a b : List SeatView) → HaveSeen a b → AllZip Same a b
all_seen [] [] h = tt
all_seen [] (y ∷ ys) h = absurd h
all_seen (x ∷ xs) [] h = absurd h
all_seen (x ∷ xs) (y ∷ ys) h = (h.0.numbers, all_seen xs ys h.1)

some_is : (x y : SeatView) → Some x ≡ Some y → x ≡ y
some_is x y e = cc

all_set : (seats : List SeatView) (n : ℕ) (was is : SeatView) → slice_get seats n ≡ Some was → Same was is → AllZip Same seats (slice_set seats n is)
all_set [] n was is there same = absurd (cc)
all_set (s ∷ seats) zero was is there same = (same ∙ ap (λ (x : SeatView). x.numbers) (sym (some_is s was there)), all_same seats)
all_set (s ∷ seats) (suc n) was is there same = (refl, all_set seats n was is there same)

-- ---- one entry

pub keeps_none : (a : SharedScene) → KeepsNumbers a a
keeps_none a = record { router = refl; catalog = refl; places = all_same a.fronts.places }

pub keeps_both : (a b c : SharedScene) → KeepsNumbers a b → KeepsNumbers b c → KeepsNumbers a c
keeps_both a b c f g = record {
  router = g.router ∙ f.router;
  catalog = g.catalog ∙ f.catalog;
  places = all_both a.fronts.places b.fronts.places c.fronts.places f.places g.places;
}

left_same : (lawful : Opening → List Entry → Type 0) (entries : List Entry) (old new : SeatView) → Leaves lawful entries old new → Same old new
left_same lawful entries old new h = ap (λ (s : SeatView). s.numbers) h.behind

turn_same : (lawful : Opening → List Entry → Type 0) (entries : List Entry) (old new : SeatView) → TakesTurn lawful entries old new → Same old new
turn_same lawful entries old new h = left_same lawful entries h.inside new h.leaves ∙ h.sees.numbers

at_router : (IsSo : SeatView → SeatView → Type 0) (a b : SharedScene) → AtTheRouter IsSo a.fronts b.fronts → ((x y : SeatView) → IsSo x y → Same x y) → KeepsNumbers a b
at_router IsSo a b h so = record {
  router = so a.fronts.router b.fronts.router h.0;
  catalog = ap (λ (f : Fronts). f.catalog.numbers) h.1;
  places = subst (λ (seats : List SeatView). AllZip Same a.fronts.places seats) (ap (λ (f : Fronts). f.places) (sym h.1)) (all_same a.fronts.places);
}

at_catalog : (IsSo : SeatView → SeatView → Type 0) (a b : SharedScene) → AtTheCatalog IsSo a.fronts b.fronts → ((x y : SeatView) → IsSo x y → Same x y) → KeepsNumbers a b
at_catalog IsSo a b h so = record {
  router = ap (λ (f : Fronts). f.router.numbers) h.1;
  catalog = so a.fronts.catalog b.fronts.catalog h.0;
  places = subst (λ (seats : List SeatView). AllZip Same a.fronts.places seats) (ap (λ (f : Fronts). f.places) (sym h.1)) (all_same a.fronts.places);
}

at_place : (IsSo : SeatView → SeatView → Type 0) (n : ℕ) (a b : SharedScene) → AtThePlace n IsSo a.fronts b.fronts → ((x y : SeatView) → IsSo x y → Same x y) → KeepsNumbers a b
at_place IsSo n a b h so = record {
  router = ap (λ (f : Fronts). f.router.numbers) h.same;
  catalog = ap (λ (f : Fronts). f.catalog.numbers) h.same;
  places =
      subst (λ (seats : List SeatView). AllZip Same a.fronts.places seats) (ap (λ (f : Fronts). f.places) (sym h.same))
      (all_set a.fronts.places n h.seat h.after h.is_there (so h.seat h.after h.is_so));
}

catalog_same : (joined : Bool) (call : CatCall) (told : CatTold) (x y : SeatView) → CatalogTurn joined call told x y → Same x y
catalog_same true call told x y h = left_same IsCatalogHistory _ x y h
catalog_same false call told x y h = turn_same IsCatalogHistory _ x y h

worn_same : (x y : SeatView) → Wears x y → Same x y
worn_same x y h = ap (λ (s : SeatView). s.numbers) h

spent : (number : ℕ) (a b : SharedScene) → IsSpent number a.fronts b.fronts → KeepsNumbers a b
spent number a b h = by h.at
  where
    by : AtTheRouter Wears a.fronts b.fronts ⊎ (AtTheCatalog Wears a.fronts b.fronts ⊎ ((place : ℕ) × AtThePlace place Wears a.fronts b.fronts)) → KeepsNumbers a b
    by (inl router) = at_router Wears a b router worn_same
    by (inr (inl catalog)) = at_catalog Wears a b catalog worn_same
    by (inr (inr (place, there))) = at_place Wears place a b there worn_same

one : (a b : SharedScene) (entry : DeskEntry) → SharedStep a entry b → KeepsNumbers a b
one a b (Routed call told) h = at_router (RouterTurn call told) a b h.0 (λ x y so. turn_same IsRouterHistory _ x y so)
one a b (Looked joined call told) h = at_catalog (CatalogTurn joined call told) a b h.0 (λ x y so. catalog_same joined call told x y so)
one a b (Turned after found) h = at_catalog (CatalogTurn false (NextUsed after) (At found)) a b h.0 (λ x y so. turn_same IsCatalogHistory _ x y so)
one a b (Resumed last) h = subst (KeepsNumbers a) (sym h.1) (keeps_none a)
one a b (Held hold) h = at_place (HoldsThere hold) hold.at.place a b h.0 (λ x y so. left_same IsPlaceHistory _ x y so.leaves.leaves)
one a b (Stirred at before after failed) h = at_place (StirsThere before after failed) at.place a b h.0 (λ x y so. left_same IsPlaceHistory _ x y so.leaves.leaves)
one a b (Halted at state) h = at_place (HaltsThere state) at.place a b h.0 (λ x y so. left_same IsPlaceHistory _ x y so.leaves.leaves)
one a b (Missed at kept) h = at_place (MissesThere at kept) at.place a b h.0 (λ x y so. left_same IsPlaceHistory _ x y so.leaves.leaves)
one a b (Spent number) h = spent number a b h.0

-- ---- many

sees_same : (a b : SharedScene) → SeesMore a b → KeepsNumbers a b
sees_same a b h = record {
  router = ap (λ (s : SeatView). s.numbers) h.router;
  catalog = ap (λ (s : SeatView). s.numbers) h.catalog;
  places = all_seen a.fronts.places b.fronts.places h.places;
}

led_same : (a b : SharedScene) (entries : List DeskEntry) → Leads MakesOne a entries b → KeepsNumbers a b
led_same a b [] h = subst (KeepsNumbers a) h (keeps_none a)
led_same a b (entry ∷ more) h =
    let made = h.1 in
    keeps_both a made.mid b (sees_same a made.mid made.sees) (keeps_both made.mid h.0 b (one made.mid h.0 entry made.step) (led_same h.0 b more h.2))

pub numbers_kept : LawNumbers
numbers_kept old new entries h = keeps_both old h.mid new (led_same old h.mid entries h.led) (sees_same h.mid new h.sees)

-- ---- all passes

router_all : (olds news : List SharedScene) → AllZip KeepsNumbers olds news → numbers_by router_numbers news ≡ numbers_by router_numbers olds
router_all [] [] h = refl
router_all [] (new ∷ news) h = absurd h
router_all (old ∷ olds) [] h = absurd h
router_all (old ∷ olds) (new ∷ news) h = λ i. h.0.router i ++ router_all olds news h.1 i

catalog_all : (olds news : List SharedScene) → AllZip KeepsNumbers olds news → numbers_by catalog_numbers news ≡ numbers_by catalog_numbers olds
catalog_all [] [] h = refl
catalog_all [] (new ∷ news) h = absurd h
catalog_all (old ∷ olds) [] h = absurd h
catalog_all (old ∷ olds) (new ∷ news) h = λ i. h.0.catalog i ++ catalog_all olds news h.1 i

one_place : (n : ℕ) (was is : List SeatView) → AllZip Same was is → numbers_if (slice_get is n) ≡ numbers_if (slice_get was n)
one_place n [] [] h = refl
one_place n [] (y ∷ ys) h = absurd h
one_place n (x ∷ xs) [] h = absurd h
one_place zero (x ∷ xs) (y ∷ ys) h = h.0
one_place (suc n) (x ∷ xs) (y ∷ ys) h = one_place n xs ys h.1

place_all : (n : ℕ) (olds news : List SharedScene) → AllZip KeepsNumbers olds news → numbers_by (place_numbers n) news ≡ numbers_by (place_numbers n) olds
place_all n [] [] h = refl
place_all n [] (new ∷ news) h = absurd h
place_all n (old ∷ olds) [] h = absurd h
place_all n (old ∷ olds) (new ∷ news) h = λ i. one_place n old.fronts.places new.fronts.places h.0.places i ++ place_all n olds news h.1 i

pub all_kept : LawAll
all_kept hub olds news all kept each = record {
  each = each;
  router = subst (λ (ns : List ℕ). HasAll hub.router.seats (ns ++ port_numbers hub.places)) (sym (router_all olds news kept)) all.router;
  catalog = subst (HasAll hub.catalog.seats) (sym (catalog_all olds news kept)) all.catalog;
  places = λ n place there. subst (HasAll place.seats) (sym (place_all n olds news kept)) (all.places n place there);
}
