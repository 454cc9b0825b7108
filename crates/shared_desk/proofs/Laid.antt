-- A hub as it begins: its locks stand round its places, and all seats went to its passes and ports.
use Rattle.std.proofs.Common.{◌≡◌, ◌+◌, ◌<◌, ◌≤◌, ◌++◌, ℕ, zero, suc, List, [], ◌∷◌, length, map, refl, sym, ap, subst, ◌∙◌, inl, inr, arith}
use Rattle.std.specs.Prelude.{◌⊎◌, Option, None, Some, slice_get}
use Rattle.std.specs.Global.{Vec}
use Rattle.std.specs.List.{AllByRecursion, AllZip}
use Rattle.std.proofs.lemmas.List.{append_assoc, append-nil, length-append}
use Rattle.std.proofs.lemmas.Slice.Zip.{all_zipped_more}
use Rattle.atomic_table.specs.Seated.{TableId}
use Rattle.js_model.specs.declared.kept_place.KeptPlace.{KeptPlace}
use Rattle.js_model.specs.Catalog.{Catalog, catalog_of}
use Rattle.js_model.specs.Router.{Router, empty_router}
use Rattle.place_engine.specs.Stepping.{Seen}
use Rattle.histories.specs.Entries.{Opening, OfPlace, OfRouter, OfCatalog}
use Rattle.turn_lock.specs.Calls.{HasAll, new_seat, new_seats, number_of}
use Rattle.turn_lock.specs.Seats.{LockView, SeatView}
use Rattle.hub_catalog.specs.Kinds.{CatalogIs}
use Rattle.hub_catalog.specs.Laws.{LawOpening}
use Rattle.hub_fronts.specs.Fronts.{SharedScene}
use Rattle.hub_place.specs.Kinds.{IsNewPort, opening_of}
use Rattle.hub_router.specs.Kinds.{RouterIs}
use Rattle.shared_desk.specs.Dealing.{AreAllSeats}
use Rattle.shared_desk.specs.Histories.{all_numbers}
use Rattle.shared_desk.specs.Laying.{IsDealt, IsLaid, LocksAll, passes_of, rows_of}
use Rattle.shared_desk.specs.Opening.{IsLocked}
use Rattle.shared_desk.specs.Passes.{numbers_by, place_numbers, port_number, port_numbers}
use Rattle.shared_desk.specs.Seats.{IsSeatOf}
use Rattle.shared_desk.proofs.Dealing.{at_last, catalog_all, dealt_all, dealt_long, dealt_unmade, new_of, passes_each, passes_long, passes_new, place_all, router_all}

-- ---- rows of seats

all_first : (Is : SeatView → Type 0) (xs ys : List SeatView) → AllByRecursion Is (xs ++ ys) → AllByRecursion Is xs
all_first Is [] ys h = tt
all_first Is (x ∷ xs) ys h = (h.0, all_first Is xs ys h.1)

both_of : (of : LockView) (seats : List SeatView) → AllByRecursion (λ (seat : SeatView). seat.lock ≡ of.lock) seats → AllByRecursion (λ (seat : SeatView). seat.opening ≡ of.opening) seats → AllByRecursion (IsSeatOf of) seats
both_of of [] a b = tt
both_of of (s ∷ seats) a b = (record { lock = a.0; opening = b.0 }, both_of of seats a.1 b.1)

new_opening : (lock : TableId) (o : Opening) (n : ℕ) → AllByRecursion (λ (seat : SeatView). seat.opening ≡ o) (new_seats lock o n)
new_opening lock o zero = tt
new_opening lock o (suc n) = (refl, new_opening lock o n)

dealt_of : (o : Opening) (n : ℕ) (of : LockView) (seats : List SeatView) → IsDealt o n of seats → AllByRecursion (IsSeatOf of) seats
dealt_of o n of seats d = subst (λ (ss : List SeatView). AllByRecursion (IsSeatOf of) ss) (sym d.seats_are)
    (both_of of (new_seats of.lock o n) (new_of of.lock o n) (subst (λ (p : Opening). AllByRecursion (λ (seat : SeatView). seat.opening ≡ p) (new_seats of.lock o n)) (sym d.opens) (new_opening of.lock o n)))

numbers_append : (xs ys : List SeatView) → all_numbers (xs ++ ys) ≡ all_numbers xs ++ all_numbers ys
numbers_append [] ys = refl
numbers_append (x ∷ xs) ys = ap (λ (ns : List ℕ). x.numbers ++ ns) (numbers_append xs ys) ∙ sym (append_assoc x.numbers (all_numbers xs) (all_numbers ys))

-- ---- the locks round the places

module _ {P : Type 0} (seen : P → Seen) (workers : ℕ) where
  pub locks_none : (ports : List SeatView) → LocksAll seen workers [] ports ports []
  locks_none ports = record { moved = []; whole = sym (append-nil ports); as_many = refl; count = refl; numbers = refl; locked = λ router of. tt }

  -- one more place, with the seat behind those
  pub locks_more : (row : List P) (place : P) (before after : List SeatView) (port : SeatView) (locks : List LockView) (of : LockView) (seats : List SeatView)
      → IsNewPort port → IsDealt (opening_of (seen place).place port) workers of seats → LocksAll seen workers row before after locks
      → LocksAll seen workers (row ++ place ∷ []) (before ++ port ∷ []) after (locks ++ of ∷ [])
  locks_more row place before after port locks of seats new d h = record {
    moved = h.moved ++ port ∷ [];
    whole = ap (λ (ss : List SeatView). ss ++ port ∷ []) h.whole ∙ append_assoc after h.moved (port ∷ []);
    as_many = length-append h.moved (port ∷ []) ∙ ap (λ (n : ℕ). n + 1) h.as_many ∙ sym (length-append row (place ∷ []));
    count = length-append locks (of ∷ []) ∙ ap (λ (n : ℕ). n + 1) h.count ∙ sym (length-append row (place ∷ []));
    numbers = numbers_append h.moved (port ∷ []) ∙ (λ i. h.numbers i ++ one i) ∙ sym (ports_append locks (of ∷ []));
    locked = λ router are. all_zipped_more (IsLocked seen router workers) row locks place of (h.locked router (all_first (λ (seat : SeatView). seat.lock ≡ router) before (port ∷ []) are)) (is_locked router (all_last before are));
  }
    where
      ports_append : (xs ys : List LockView) → port_numbers (xs ++ ys) ≡ port_numbers xs ++ port_numbers ys
      ports_append [] ys = refl
      ports_append (x ∷ xs) ys = ap (λ (ns : List ℕ). port_number x.opening ++ ns) (ports_append xs ys) ∙ sym (append_assoc (port_number x.opening) (port_numbers xs) (port_numbers ys))

      one : all_numbers (port ∷ []) ≡ port_numbers (of ∷ [])
      one = ap (λ (s : SeatView). s.numbers ++ []) new.is_new ∙ ap (λ (s : SeatView). number_of s ∷ []) (sym new.is_new) ∙ ap (λ (o : Opening). port_number o ++ []) (sym d.opens)

      all_last : (xs : List SeatView) {router : TableId} → AllByRecursion (λ (seat : SeatView). seat.lock ≡ router) (xs ++ port ∷ []) → port.lock ≡ router
      all_last [] are = are.0
      all_last (x ∷ xs) are = all_last xs are.1

      is_locked : (router : TableId) → port.lock ≡ router → IsLocked seen router workers place of
      is_locked router e = record {
        port = number_of port;
        opening = d.opens ∙ ap (λ (t : TableId). OfPlace (seen place).place.state (seen place).place.volume.faults (record { lock = t; number = number_of port })) e;
        seats = d.count_is;
      }

  pub locks_begun : (row : List P) (ports : List SeatView) (locks : List LockView) → row ≡ [] → locks ≡ [] → LocksAll seen workers row ports ports locks
  locks_begun row ports locks e f = subst (λ (r : List P). LocksAll seen workers r ports ports locks) (sym e) (subst (λ (ls : List LockView). LocksAll seen workers [] ports ports ls) (sym f) (locks_none ports))

  pub locks_on : (row_all row : List P) (place : P) (before_all before after : List SeatView) (port : SeatView) (locks_all locks : List LockView) (of : LockView) (seats : List SeatView)
      → row_all ≡ row ++ place ∷ [] → before_all ≡ before ++ port ∷ [] → locks_all ≡ locks ++ of ∷ [] → AllByRecursion IsNewPort before_all
      → IsDealt (opening_of (seen place).place port) workers of seats → LocksAll seen workers row before after locks → LocksAll seen workers row_all before_all after locks_all
  locks_on row_all row place before_all before after port locks_all locks of seats e f g new d h =
      subst (λ (r : List P). LocksAll seen workers r before_all after locks_all) (sym e)
      (subst (λ (b : List SeatView). LocksAll seen workers (row ++ place ∷ []) b after locks_all) (sym f)
      (subst (λ (ls : List LockView). LocksAll seen workers (row ++ place ∷ []) (before ++ port ∷ []) after ls) (sym g)
      (locks_more row place before after port locks of seats (at_last IsNewPort before_all before port f new) d h)))

  seats_locked : (router : TableId) (row : List P) (locks : List LockView) → AllZip (IsLocked seen router workers) row locks → (n : ℕ) (of : LockView) → slice_get locks n ≡ Some of → of.seats ≡ workers
  seats_locked router row [] z n of there = absurd (cc)
  seats_locked router [] (l ∷ locks) z n of there = absurd z
  seats_locked router (p ∷ row) (l ∷ locks) z zero of there = ap (λ (x : LockView). x.seats) (is of l there) ∙ z.0.seats
    where
      is : (x y : LockView) → Some y ≡ Some x → x ≡ y
      is x y e = cc
  seats_locked router (p ∷ row) (l ∷ locks) z (suc n) of there = seats_locked router row locks z.1 n of there

  pub ports_long : (row : List P) (router : LockView) (ports routers : List SeatView) (locks : List LockView) → IsDealt OfRouter (workers + length row) router ports → LocksAll seen workers row ports routers locks → length routers ≡ workers
  ports_long row router ports routers locks r h = omega (arith, length-append routers h.moved, ap length h.whole, h.as_many, dealt_long OfRouter (workers + length row) router ports r)

  -- ---- the hub

  pub laid : (kept : Catalog) (row : List P) (router catalog : LockView) (ports routers catalogs : List SeatView) (locks : List LockView) → 0 < workers
      → IsDealt OfRouter (workers + length row) router ports → IsDealt (OfCatalog kept) workers catalog catalogs → LocksAll seen workers row ports routers locks
      → IsLaid seen kept workers row (record { router = router; catalog = catalog; places = locks }) (passes_of (rows_of locks workers) routers catalogs)
  laid kept row router catalog ports routers catalogs locks some r c h =
      let long : length routers ≡ workers = ports_long row router ports routers locks r h in
      let wide : length catalogs ≡ workers = dealt_long (OfCatalog kept) workers catalog catalogs c in
      let all : AreAllSeats router ports = dealt_all OfRouter (workers + length row) router ports (omega (arith, some)) r in
      let rs : AllByRecursion (IsSeatOf router) routers = all_first (IsSeatOf router) routers h.moved (subst (λ (ss : List SeatView). AllByRecursion (IsSeatOf router) ss) h.whole (dealt_of OfRouter (workers + length row) router ports r)) in
      let locked : AllZip (IsLocked seen router.lock workers) row locks = h.locked router.lock all.are_of in
      record {
        router = r.opens;
        router_seats = r.count_is;
        catalog_is = c.opens;
        catalog_seats = c.count_is;
        places = locked;
        count = passes_long locks workers routers catalogs long wide;
        all = record {
          each = passes_each locks router catalog workers routers catalogs rs (dealt_of (OfCatalog kept) workers catalog catalogs c);
          router = subst (λ (ns : List ℕ). HasAll router.seats ns)
              (ap all_numbers h.whole ∙ numbers_append routers h.moved ∙ (λ i. sym (router_all locks workers routers catalogs long wide) i ++ h.numbers i)) all.all;
          catalog = subst (λ (ns : List ℕ). HasAll catalog.seats ns) (sym (catalog_all locks workers routers catalogs long wide)) (dealt_all (OfCatalog kept) workers catalog catalogs some c).all;
          places = λ n of there. subst (λ (k : ℕ). HasAll k (numbers_by (place_numbers n) (passes_of (rows_of locks workers) routers catalogs))) (sym (seats_locked router.lock row locks locked n of there))
              (place_all locks n of there workers routers catalogs long wide);
        };
        new = passes_new locks router catalog workers routers catalogs
            (all_first (λ (seat : SeatView). seat.front ≡ []) routers h.moved (subst (λ (ss : List SeatView). AllByRecursion (λ (seat : SeatView). seat.front ≡ []) ss) h.whole (dealt_unmade OfRouter (workers + length row) router ports r)))
            (dealt_unmade (OfCatalog kept) workers catalog catalogs c);
      }

  -- in the code's words
  pub laid_so : (kept : Catalog) (row : List P) (router catalog : LockView) (ports routers catalogs : List SeatView) (locks : List LockView) (rows : List (Vec (Option SeatView))) (passes : List SharedScene) → 0 < workers
      → IsDealt OfRouter (workers + length row) router ports → IsDealt (OfCatalog kept) workers catalog catalogs → LocksAll seen workers row ports routers locks
      → map (λ (r : Vec (Option SeatView)). r.items) rows ≡ rows_of locks workers → passes ≡ passes_of (map (λ (r : Vec (Option SeatView)). r.items) rows) routers catalogs
      → IsLaid seen kept workers row (record { router = router; catalog = catalog; places = locks }) passes
  laid_so kept row router catalog ports routers catalogs locks rows passes some r c h e f =
      subst (λ (ps : List SharedScene). IsLaid seen kept workers row (record { router = router; catalog = catalog; places = locks }) ps) (sym (f ∙ ap (λ (rs : List (List (Option SeatView))). passes_of rs routers catalogs) e))
      (laid kept row router catalog ports routers catalogs locks some r c h)

-- ---- the router and the catalog as they begin

pub router_new : (router : Router) → router ≡ empty_router → RouterIs OfRouter [] router
router_new router is = subst (λ (r : Router). RouterIs OfRouter [] r) (sym is) ([], record { calls = []; same = refl; run = refl })

pub catalog_new : LawOpening → (catalog : Catalog) → ((kept : List KeptPlace) × (catalog ≡ catalog_of kept)) → CatalogIs (OfCatalog catalog) [] catalog
catalog_new law catalog (kept, is) = subst (λ (c : Catalog). CatalogIs (OfCatalog c) [] c) (sym is) (law kept)
