-- Worked rows of histories, of a seat's own entries and of fronts that grow.
use Rattle.std.proofs.Common.{◌≡◌, ℕ, zero, suc, [], ◌∷◌, length, refl, ap, inl, arith}
use Rattle.std.specs.Prelude.{None, codes}
use Rattle.js_model.specs.declared.stream.State.TheVariants.{Vacant}
use Rattle.js_model.specs.Router.{Open, Opened, RouteCall, RouteTold, route, empty_router, opened}
use Rattle.js_model.specs.Catalog.{Catalog, ByName, At, catalog_call, new_place}
use Rattle.histories.specs.Entries.{Entry, AtRouter, AtCatalog, SeatId, OfPlace, OfRouter, OfCatalog, AreBy}
use Rattle.histories.specs.Lawful.{IsPlaceHistory, IsRouterHistory, IsCatalogHistory}
use Rattle.histories.specs.Fronts.{own, Grows}
use Rattle.histories.proofs.Own.{own-grows}

-- a look-up that finds nothing, by a seat
abbrev looks : ℕ → Entry
looks seat = AtCatalog (record { seat = seat; call = ByName (codes "A"); told = At None })

abbrev calls : ℕ → RouteCall → RouteTold → Entry
calls seat call told = AtRouter (record { seat = seat; call = call; told = told })

-- ---- which lists are lawful

abbrev empty_catalog : Catalog
empty_catalog = new_place ∷ []

two_looks : IsCatalogHistory (OfCatalog empty_catalog) (looks 1 ∷ looks 2 ∷ [])
unfolding catalog_call
two_looks = (
  empty_catalog,
  record {
    calls = record { seat = 1; call = ByName (codes "A"); told = At None } ∷ record { seat = 2; call = ByName (codes "A"); told = At None } ∷ [];
    same = refl;
    run = (empty_catalog, inl refl, (empty_catalog, inl refl, refl));
  },
)

-- the seat 7 opens a session
one_opened : IsRouterHistory OfRouter (calls 7 Open (Opened 1) ∷ [])
unfolding route
one_opened = (
  record { router = opened empty_router; openers = record { session = 1; seat = 7 } ∷ [] },
  record {
    calls = record { seat = 7; call = Open; told = Opened 1 } ∷ [];
    same = refl;
    run = (record { router = opened empty_router; openers = record { session = 1; seat = 7 } ∷ [] }, record { route = inl (record { chosen = []; choice = refl; routed = refl }); may = tt; after = refl }, refl);
  },
)

nothing_yet : (port : SeatId) → IsPlaceHistory (OfPlace (Vacant 0) 0 port) []
nothing_yet port = (Vacant 0, record { steps = []; same = refl; run = refl })

-- a history of one kind opens in no state of another
no_router : IsRouterHistory (OfCatalog empty_catalog) [] → ⊥
no_router h = h.1

no_catalog : IsCatalogHistory OfRouter [] → ⊥
no_catalog h = h.1

-- ---- a seat's own entries

own_of_one : own (1 ∷ []) (looks 1 ∷ looks 2 ∷ looks 1 ∷ []) ≡ looks 1 ∷ looks 1 ∷ []
own_of_one = refl

own_of_both : own (1 ∷ 2 ∷ []) (looks 1 ∷ looks 2 ∷ looks 1 ∷ []) ≡ looks 1 ∷ looks 2 ∷ looks 1 ∷ []
own_of_both = refl

by_one : AreBy 1 (looks 1 ∷ looks 1 ∷ [])
by_one = (refl, (refl, tt))

-- ---- fronts

-- another one's entry came in between
has_grown : Grows (1 ∷ []) (looks 1 ∷ []) (looks 1 ∷ looks 2 ∷ [])
has_grown = record { later = looks 2 ∷ []; behind = refl; foreign = (refl, tt) }

-- one's own can't
not_unseen : Grows (2 ∷ []) (looks 1 ∷ []) (looks 1 ∷ looks 2 ∷ []) → ⊥
not_unseen g = let more : suc zero ≡ zero = ap length (own-grows (2 ∷ []) (looks 1 ∷ []) (looks 1 ∷ looks 2 ∷ []) g) in absurd (omega arith)
