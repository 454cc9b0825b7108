-- Calls of the catalog within a turn, and one in a turn of its own.
use Rattle.std.proofs.Common.{◌≡◌, ◌++◌, ◌<◌, ◌≤◌, ℕ, true, false, List, [], ◌∷◌, length, append_assoc, append-nil, refl, sym, ap, subst, ◌∙◌}
use Rattle.std.proofs.lemmas.List.{map-append}
use Rattle.js_base.specs.Bytes.{has}
use Rattle.js_model.specs.declared.kept_place.KeptPlace.{KeptPlace}
use Rattle.js_model.specs.Catalog.{Catalog, CatCall, CatEntry, CatTold, IsCatalogCall, catalog_of}
use Rattle.histories.specs.Entries.{Entry, AtCatalog, AreBy, Opening, OfPlace, OfRouter, OfCatalog}
use Rattle.histories.specs.Lawful.{CatalogStands, IsCatalogHistory}
use Rattle.turn_lock.specs.Calls.{Comes, added, number_of}
use Rattle.turn_lock.specs.Ruled.{last_ticket}
use Rattle.turn_lock.specs.Seats.{SeatView}
use Rattle.turn_lock.specs.Views.{first_of}
use Rattle.hub_fronts.specs.Stepping.{CatalogTurn, looked_by}
use Rattle.hub_fronts.specs.Turns.{HasSeen, Leaves}
use Rattle.hub_fronts.proofs.Seen.{seen_inside}
use Rattle.hub_catalog.specs.Kinds.{CatalogIs, places_of}
use Rattle.hub_catalog.specs.Turns.{IsCalled, IsOpenTurn}
use Rattle.hub_catalog.proofs.Runs.{run_length, run_more}
use Rattle.hub_catalog.proofs.Singles.{kept_single}

-- ---- what stands

pub opening_stands : (kept : List KeptPlace) → CatalogIs (OfCatalog (catalog_of kept)) [] (catalog_of kept)
opening_stands kept = record { stands = record { calls = []; same = refl; run = refl }; single = kept_single kept }

pub stands_places : (o : Opening) (front : List Entry) (catalog : Catalog) → CatalogStands o front catalog → length catalog ≡ places_of o
stands_places (OfPlace state faults port) front catalog stands = absurd stands
stands_places OfRouter front catalog stands = absurd stands
stands_places (OfCatalog opening) front catalog stands = run_length opening catalog stands.calls stands.run

stands_after : (o : Opening) (front : List Entry) (number : ℕ) (call : CatCall) (told : CatTold) (was is : Catalog) → CatalogStands o front was → IsCatalogCall was call told is
    → CatalogStands o (front ++ looked_by number call told ∷ []) is
stands_after (OfPlace state faults port) front number call told was is stands answers = absurd stands
stands_after OfRouter front number call told was is stands answers = absurd stands
stands_after (OfCatalog opening) front number call told was is stands answers =
    let entry : CatEntry = record { seat = number; call = call; told = told } in
    record {
      calls = stands.calls ++ entry ∷ [];
      same = ap (λ (es : List Entry). es ++ AtCatalog entry ∷ []) stands.same ∙ sym (map-append AtCatalog stands.calls (entry ∷ []));
      run = run_more opening was is stands.calls entry stands.run answers;
    }

-- ---- the beginning of a turn

module _ (seat inside : SeatView) (value : Catalog) (entries : List Entry) (comes : Comes CatalogIs seat inside value) (none : entries ≡ []) where
  as_inside : (P : SeatView → Type 0) → P inside → P (added inside entries)
  as_inside P holds =
      subst P (ap (λ (front : List Entry). record inside { front = front }) (sym (ap (λ (es : List Entry). inside.front ++ es) none ∙ append-nil inside.front))) holds

  pub open_begun : has inside.numbers (number_of inside) ≡ true → IsOpenTurn inside entries value
  open_begun among = record {
    among = among;
    by = subst (AreBy (number_of inside)) (sym none) tt;
    stands = as_inside (λ (s : SeatView). CatalogStands s.opening s.front value) comes.stands_for.stands;
  }

  pub has_seen : HasSeen seat (added inside entries)
  has_seen = as_inside (HasSeen seat) (seen_inside CatalogIs seat inside value comes)

-- ---- a call

module _ (inside : SeatView) (entries : List Entry) (was is : Catalog) (call : CatCall) (told : CatTold) (now : List Entry) (turn : IsOpenTurn inside entries was)
    (now_is : now ≡ entries ++ looked_by (number_of inside) call told ∷ []) (answers : IsCatalogCall was call told is) where
  abbrev one : List Entry
  one = looked_by (number_of inside) call told ∷ []

  by-append : (seat : ℕ) (a b : List Entry) → AreBy seat a → AreBy seat b → AreBy seat (a ++ b)
  by-append seat [] b f g = g
  by-append seat (e ∷ es) b f g = (f.0, by-append seat es b f.1 g)

  after : CatalogStands inside.opening ((inside.front ++ entries) ++ one) is
  after = stands_after inside.opening (inside.front ++ entries) (number_of inside) call told was is turn.stands answers

  pub open_called : IsOpenTurn inside now is
  open_called = record {
    among = turn.among;
    by = subst (AreBy (number_of inside)) (sym now_is) (by-append (number_of inside) entries one turn.by (refl, tt));
    stands =
        subst (λ (es : List Entry). CatalogStands inside.opening (inside.front ++ es) is) (sym now_is)
        (subst (λ (es : List Entry). CatalogStands inside.opening es is) (append_assoc inside.front entries one) after);
  }

  pub called : IsCalled call told (record { seat = added inside entries; kept = was }) (record { seat = added inside now; kept = is })
  called = record {
    answers = answers;
    joins = record {
      behind =
          ap (λ (front : List Entry). record inside { front = front })
          (ap (λ (es : List Entry). inside.front ++ es) now_is ∙ sym (append_assoc inside.front entries one));
      by = (refl, tt);
      among = turn.among;
      is_lawful = (is, after);
    };
  }

-- ---- in a turn of its own

pub takes_turn : (call : CatCall) (told : CatTold) (seat inside new : SeatView) → HasSeen seat inside → (seat.drawn < inside.drawn) × (inside.drawn ≤ last_ticket)
    → CatalogTurn true call told inside new → CatalogTurn false call told seat new
takes_turn call told seat inside new sees ticket joins = record {
  inside = inside;
  sees = sees;
  ticket = ticket.0;
  low = ticket.1;
  leaves = subst (λ (n : ℕ). Leaves IsCatalogHistory (looked_by n call told ∷ []) inside new) (ap first_of sees.numbers) joins;
}
