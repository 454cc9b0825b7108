-- The seats of locks, dealt into rows and passes, are all seats, and new.
use Rattle.std.proofs.Common.{◌≡◌, ◌+◌, ◌<◌, ◌≤◌, ◌++◌, ◌||◌, ℕ, zero, suc, Bool, true, false, List, [], ◌∷◌, length, map, Option, None, Some, refl, sym, ap, subst, ◌∙◌, arith}
use Rattle.std.specs.Prelude.{◌==◌, reverse, slice_get, vec_capacity, vec_len}
use Rattle.std.specs.Global.{Vec}
use Rattle.std.specs.List.{AllByRecursion, AllZip}
use Rattle.std.proofs.lemmas.Bool.{eqb-true}
use Rattle.std.proofs.lemmas.Slice.Zip.{all_zipped_more}
use Rattle.std.proofs.lemmas.List.{append_assoc, length-append, length-map, map-append, reverse-append}
use Rattle.js_base.specs.Bytes.{has}
use Rattle.js_model.specs.Limits.{last_place}
use Rattle.atomic_table.specs.Seated.{TableId}
use Rattle.histories.specs.Entries.{Opening, OfRouter}
use Rattle.turn_lock.specs.Calls.{HasAll, new_seat, new_seats}
use Rattle.turn_lock.specs.Seats.{LockView, SeatView}
use Rattle.hub_fronts.specs.Fronts.{SharedScene}
use Rattle.hub_place.specs.Kinds.{IsNewPort}
use Rattle.shared_desk.specs.Dealing.{AreAllSeats}
use Rattle.shared_desk.specs.Histories.{all_numbers}
use Rattle.shared_desk.specs.Hubs.{HubView}
use Rattle.shared_desk.specs.Laying.{IsDealt, IsSameSeat, passes_of, put_each, row_of, rows_of}
use Rattle.shared_desk.specs.Passes.{AreAllPasses, IsNewPass, IsPassOf, catalog_numbers, numbers_by, numbers_if, place_numbers, port_numbers, router_numbers, scene_by}
use Rattle.shared_desk.specs.Seats.{AreThere, IsSeatOf, seats_in}

-- ---- new seats

-- a number is the greatest one, or below it
below_or : (n m : ℕ) (ns : List ℕ) → m < suc n → (m < n → has ns m ≡ true) → has (n ∷ ns) m ≡ true
below_or n m ns less rest = by (n == m) refl
  where
    by : (b : Bool) → (n == m) ≡ b → (b || has ns m) ≡ true
    by true e = refl
    by false e = rest (grind (arith, less, e))

pub new_all : (lock : TableId) (o : Opening) (n : ℕ) → HasAll n (all_numbers (new_seats lock o n))
new_all lock o zero = λ m less. absurd (omega arith)
new_all lock o (suc n) = λ m less. below_or n m (all_numbers (new_seats lock o n)) less (λ low. new_all lock o n m low)

pub new_of : (lock : TableId) (o : Opening) (n : ℕ) → AllByRecursion (λ (seat : SeatView). seat.lock ≡ lock) (new_seats lock o n)
new_of lock o zero = tt
new_of lock o (suc n) = (refl, new_of lock o n)

pub new_unmade : (lock : TableId) (o : Opening) (n : ℕ) → AllByRecursion (λ (seat : SeatView). seat.front ≡ []) (new_seats lock o n)
new_unmade lock o zero = tt
new_unmade lock o (suc n) = (refl, new_unmade lock o n)

pub new_long : (lock : TableId) (o : Opening) (n : ℕ) → length (new_seats lock o n) ≡ n
new_long lock o zero = refl
new_long lock o (suc n) = ap (λ (k : ℕ). suc k) (new_long lock o n)

-- those of a router are new ports
pub new_ports : (lock : TableId) (n : ℕ) → AllByRecursion IsNewPort (new_seats lock OfRouter n)
new_ports lock zero = tt
new_ports lock (suc n) = (record { number = n; is_new = refl }, new_ports lock n)

-- ---- all seats of a lock

pub dealt_all : (o : Opening) (n : ℕ) (of : LockView) (seats : List SeatView) → 0 < n → IsDealt o n of seats → AreAllSeats of seats
dealt_all o n of seats some d = record {
  some = subst (λ (k : ℕ). 0 < k) (sym d.count_is) some;
  are_of = subst (λ (ss : List SeatView). AllByRecursion (λ (seat : SeatView). seat.lock ≡ of.lock) ss) (sym d.seats_are) (new_of of.lock o n);
  all = subst (λ (k : ℕ). HasAll k (all_numbers seats)) (sym d.count_is) (subst (λ (ss : List SeatView). HasAll n (all_numbers ss)) (sym d.seats_are) (new_all of.lock o n));
}

pub dealt_unmade : (o : Opening) (n : ℕ) (of : LockView) (seats : List SeatView) → IsDealt o n of seats → AllByRecursion (λ (seat : SeatView). seat.front ≡ []) seats
dealt_unmade o n of seats d = subst (λ (ss : List SeatView). AllByRecursion (λ (seat : SeatView). seat.front ≡ []) ss) (sym d.seats_are) (new_unmade of.lock o n)

pub dealt_long : (o : Opening) (n : ℕ) (of : LockView) (seats : List SeatView) → IsDealt o n of seats → length seats ≡ n
dealt_long o n of seats d = ap length d.seats_are ∙ new_long of.lock o n

-- so they are when each of them has seen whatever it has
same_of : (of : LockView) (was is : List SeatView) → AllZip IsSameSeat was is → AllByRecursion (λ (seat : SeatView). seat.lock ≡ of.lock) was → AllByRecursion (λ (seat : SeatView). seat.lock ≡ of.lock) is
same_of of [] [] z h = tt
same_of of [] (y ∷ ys) z h = absurd z
same_of of (x ∷ xs) [] z h = absurd z
same_of of (x ∷ xs) (y ∷ ys) z h = (z.0.lock ∙ h.0, same_of of xs ys z.1 h.1)

same_numbers : (was is : List SeatView) → AllZip IsSameSeat was is → all_numbers is ≡ all_numbers was
same_numbers [] [] z = refl
same_numbers [] (y ∷ ys) z = absurd z
same_numbers (x ∷ xs) [] z = absurd z
same_numbers (x ∷ xs) (y ∷ ys) z = λ i. z.0.numbers i ++ same_numbers xs ys z.1 i

pub all_same : (of : LockView) (was is : List SeatView) → AllZip IsSameSeat was is → AreAllSeats of was → AreAllSeats of is
all_same of was is z all = record {
  some = all.some;
  are_of = same_of of was is z all.are_of;
  all = subst (λ (ns : List ℕ). HasAll of.seats ns) (sym (same_numbers was is z)) all.all;
}

pub same_seats : (seats : List SeatView) → AllZip IsSameSeat seats seats
same_seats [] = tt
same_seats (s ∷ seats) = (record { lock = refl; numbers = refl }, same_seats seats)

-- ---- rows

-- one seat more is put to the last row
pub put_last : (rows : List (List (Option SeatView))) (seats : List SeatView) (row : List (Option SeatView)) (seat : SeatView) → length seats ≡ length rows
    → put_each (rows ++ row ∷ []) (seats ++ seat ∷ []) ≡ put_each rows seats ++ (row ++ Some seat ∷ []) ∷ []
put_last [] [] row seat e = refl
put_last [] (s ∷ seats) row seat e = absurd (omega (arith, e))
put_last (r ∷ rows) [] row seat e = absurd (omega (arith, e))
put_last (r ∷ rows) (s ∷ seats) row seat e = ap (λ (more : List (List (Option SeatView))). (r ++ Some s ∷ []) ∷ more) (put_last rows seats row seat (omega (arith, e)))

row_more : (locks : List LockView) (of : LockView) (n : ℕ) → row_of (locks ++ of ∷ []) n ≡ row_of locks n ++ Some (new_seat of.lock of.opening n) ∷ []
row_more locks of n = map-append (λ (l : LockView). Some (new_seat l.lock l.opening n)) locks (of ∷ [])

-- the new seats of one more lock
pub put_new : (locks : List LockView) (of : LockView) (n : ℕ) → put_each (rows_of locks n) (new_seats of.lock of.opening n) ≡ rows_of (locks ++ of ∷ []) n
put_new locks of zero = refl
put_new locks of (suc n) = let e : row_of locks n ++ Some (new_seat of.lock of.opening n) ∷ [] ≡ row_of (locks ++ of ∷ []) n = sym (row_more locks of n) in λ i. e i ∷ put_new locks of n i

pub rows_long : (locks : List LockView) (n : ℕ) → length (rows_of locks n) ≡ n
rows_long locks zero = refl
rows_long locks (suc n) = ap (λ (k : ℕ). suc k) (rows_long locks n)

row_seats : (locks : List LockView) (n : ℕ) → seats_in (row_of locks n) ≡ map (λ (l : LockView). new_seat l.lock l.opening n) locks
row_seats [] n = refl
row_seats (l ∷ locks) n = ap (λ (more : List SeatView). new_seat l.lock l.opening n ∷ more) (row_seats locks n)

row_there : (locks : List LockView) (n : ℕ) → AreThere (row_of locks n)
row_there [] n = refl
row_there (l ∷ locks) n = ap (λ (more : List (Option SeatView)). Some (new_seat l.lock l.opening n) ∷ more) (row_there locks n)

pub rows_there : (locks : List LockView) (n : ℕ) → AllByRecursion AreThere (rows_of locks n)
rows_there locks zero = tt
rows_there locks (suc n) = (row_there locks n, rows_there locks n)

-- ---- passes

pub pass_last : (rows : List (List (Option SeatView))) (routers catalogs : List SeatView) (row : List (Option SeatView)) (router catalog : SeatView)
    → length routers ≡ length rows → length catalogs ≡ length rows
    → passes_of (rows ++ row ∷ []) (routers ++ router ∷ []) (catalogs ++ catalog ∷ []) ≡ passes_of rows routers catalogs ++ scene_by router catalog row last_place None ∷ []
pass_last [] [] [] row router catalog e f = refl
pass_last [] [] (c ∷ cs) row router catalog e f = absurd (omega (arith, f))
pass_last [] (r ∷ rs) cs row router catalog e f = absurd (omega (arith, e))
pass_last (x ∷ xs) [] cs row router catalog e f = absurd (omega (arith, e))
pass_last (x ∷ xs) (r ∷ rs) [] row router catalog e f = absurd (omega (arith, f))
pass_last (x ∷ xs) (r ∷ rs) (c ∷ cs) row router catalog e f = ap (λ (more : List SharedScene). scene_by r c x last_place None ∷ more) (pass_last xs rs cs row router catalog (omega (arith, e)) (omega (arith, f)))

module _ (locks : List LockView) where
  pub passes_long : (n : ℕ) (rs cs : List SeatView) → length rs ≡ n → length cs ≡ n → length (passes_of (rows_of locks n) rs cs) ≡ n
  passes_long zero rs cs e f = refl
  passes_long (suc n) [] cs e f = absurd (omega (arith, e))
  passes_long (suc n) (r ∷ rs) [] e f = absurd (omega (arith, f))
  passes_long (suc n) (r ∷ rs) (c ∷ cs) e f = ap (λ (k : ℕ). suc k) (passes_long n rs cs (omega (arith, e)) (omega (arith, f)))

  pub router_all : (n : ℕ) (rs cs : List SeatView) → length rs ≡ n → length cs ≡ n → numbers_by router_numbers (passes_of (rows_of locks n) rs cs) ≡ all_numbers rs
  router_all zero [] cs e f = refl
  router_all zero (r ∷ rs) cs e f = absurd (omega (arith, e))
  router_all (suc n) [] cs e f = absurd (omega (arith, e))
  router_all (suc n) (r ∷ rs) [] e f = absurd (omega (arith, f))
  router_all (suc n) (r ∷ rs) (c ∷ cs) e f = ap (λ (ns : List ℕ). r.numbers ++ ns) (router_all n rs cs (omega (arith, e)) (omega (arith, f)))

  pub catalog_all : (n : ℕ) (rs cs : List SeatView) → length rs ≡ n → length cs ≡ n → numbers_by catalog_numbers (passes_of (rows_of locks n) rs cs) ≡ all_numbers cs
  catalog_all zero rs [] e f = refl
  catalog_all zero rs (c ∷ cs) e f = absurd (omega (arith, f))
  catalog_all (suc n) [] cs e f = absurd (omega (arith, e))
  catalog_all (suc n) (r ∷ rs) [] e f = absurd (omega (arith, f))
  catalog_all (suc n) (r ∷ rs) (c ∷ cs) e f = ap (λ (ns : List ℕ). c.numbers ++ ns) (catalog_all n rs cs (omega (arith, e)) (omega (arith, f)))

  -- at one place each pass has the number of its row
  number_at : (n k : ℕ) (of : LockView) (ls : List LockView) → slice_get ls k ≡ Some of → numbers_if (slice_get (seats_in (row_of ls n)) k) ≡ n ∷ []
  number_at n k of [] there = absurd (cc)
  number_at n zero of (l ∷ ls) there = refl
  number_at n (suc k) of (l ∷ ls) there = number_at n k of ls there

  pub place_all : (k : ℕ) (of : LockView) → slice_get locks k ≡ Some of → (n : ℕ) (rs cs : List SeatView) → length rs ≡ n → length cs ≡ n
      → HasAll n (numbers_by (place_numbers k) (passes_of (rows_of locks n) rs cs))
  place_all k of there zero rs cs e f = λ m less. absurd (omega arith)
  place_all k of there (suc n) [] cs e f = absurd (omega (arith, e))
  place_all k of there (suc n) (r ∷ rs) [] e f = absurd (omega (arith, f))
  place_all k of there (suc n) (r ∷ rs) (c ∷ cs) e f = λ m less.
      subst (λ (ns : List ℕ). has (ns ++ numbers_by (place_numbers k) (passes_of (rows_of locks n) rs cs)) m ≡ true) (sym (number_at n k of locks there))
      (below_or n m (numbers_by (place_numbers k) (passes_of (rows_of locks n) rs cs)) less (λ low. place_all k of there n rs cs (omega (arith, e)) (omega (arith, f)) m low))

  row_of_locks : (n : ℕ) (ls : List LockView) → AllZip IsSeatOf ls (seats_in (row_of ls n))
  row_of_locks n [] = tt
  row_of_locks n (l ∷ ls) = (record { lock = refl; opening = refl }, row_of_locks n ls)

  row_unseen : (n : ℕ) (ls : List LockView) → AllByRecursion (λ (seat : SeatView). seat.front ≡ []) (seats_in (row_of ls n))
  row_unseen n [] = tt
  row_unseen n (l ∷ ls) = (refl, row_unseen n ls)

  module _ (router catalog : LockView) where
    abbrev hub : HubView
    hub = record { router = router; catalog = catalog; places = locks }

    pub passes_each : (n : ℕ) (rs cs : List SeatView) → AllByRecursion (IsSeatOf router) rs → AllByRecursion (IsSeatOf catalog) cs → AllByRecursion (IsPassOf hub) (passes_of (rows_of locks n) rs cs)
    passes_each zero rs cs a b = tt
    passes_each (suc n) [] cs a b = tt
    passes_each (suc n) (r ∷ rs) [] a b = tt
    passes_each (suc n) (r ∷ rs) (c ∷ cs) a b = (record { router = a.0; catalog = b.0; places = row_of_locks n locks }, passes_each n rs cs a.1 b.1)

    pub passes_new : (n : ℕ) (rs cs : List SeatView) → AllByRecursion (λ (seat : SeatView). seat.front ≡ []) rs → AllByRecursion (λ (seat : SeatView). seat.front ≡ []) cs
        → AllByRecursion IsNewPass (passes_of (rows_of locks n) rs cs)
    passes_new zero rs cs a b = tt
    passes_new (suc n) [] cs a b = tt
    passes_new (suc n) (r ∷ rs) [] a b = tt
    passes_new (suc n) (r ∷ rs) (c ∷ cs) a b = (record { router = a.0; catalog = b.0; places = row_unseen n locks; ticked = refl; last = refl }, passes_new n rs cs a.1 b.1)

-- ---- in the code's words

module _ (rows mid taken : List (Vec (Option SeatView))) (row new : Vec (Option SeatView)) where
  abbrev items : List (Vec (Option SeatView)) → List (List (Option SeatView))
  items xs = map (λ (r : Vec (Option SeatView)). r.items) xs

  -- the last row got the last seat, and those before it the others
  pub deal_more : (all seats : List SeatView) (seat : SeatView) (end : List (Vec (Option SeatView))) → end ≡ mid ++ new ∷ [] → rows ≡ taken ++ row ∷ [] → all ≡ seats ++ seat ∷ [] → length all ≡ length rows → new.items ≡ row.items ++ Some seat ∷ []
      → items mid ≡ put_each (items taken) seats → items end ≡ put_each (items rows) all
  deal_more all seats seat end ends is are long got h =
      let as_many : length seats ≡ length (items taken) = omega (arith, long, ap length is, ap length are, length-append taken (row ∷ []), length-append seats (seat ∷ []), length-map taken (λ (r : Vec (Option SeatView)). r.items)) in
      ap items ends
      ∙ map-append (λ (r : Vec (Option SeatView)). r.items) mid (new ∷ [])
      ∙ (λ i. h i ++ got i ∷ [])
      ∙ sym (put_last (items taken) seats row.items seat as_many)
      ∙ ap (λ (rs : List (List (Option SeatView))). put_each rs (seats ++ seat ∷ [])) (sym (map-append (λ (r : Vec (Option SeatView)). r.items) taken (row ∷ [])))
      ∙ (λ i. put_each (items (sym is i)) (sym are i))

none_last : (n : ℕ) → rows_of [] n ++ [] ∷ [] ≡ rows_of [] (suc n)
none_last zero = refl
none_last (suc n) = ap (λ (rows : List (List (Option SeatView))). [] ∷ rows) (none_last n)

-- one more row without seats
pub none_more : (all rows : List (Vec (Option SeatView))) (row : Vec (Option SeatView)) (n m : ℕ) → m ≡ suc n → all ≡ rows ++ row ∷ [] → row.items ≡ [] → map (λ (r : Vec (Option SeatView)). r.items) rows ≡ rows_of [] n
    → map (λ (r : Vec (Option SeatView)). r.items) all ≡ rows_of [] m
none_more all rows row n m next is none h =
    ap (λ (rs : List (Vec (Option SeatView))). map (λ (r : Vec (Option SeatView)). r.items) rs) is
    ∙ map-append (λ (r : Vec (Option SeatView)). r.items) rows (row ∷ []) ∙ (λ i. h i ++ none i ∷ []) ∙ none_last n ∙ ap (λ (k : ℕ). rows_of [] k) (sym next)

pub room_more : (all rows : List (Vec (Option SeatView))) (row : Vec (Option SeatView)) (k : ℕ) → all ≡ rows ++ row ∷ [] → AllByRecursion (λ (r : Vec (Option SeatView)). k ≤ vec_capacity r) rows → k ≤ vec_capacity row
    → AllByRecursion (λ (r : Vec (Option SeatView)). k ≤ vec_capacity r) all
room_more all rows row k is each one = subst (λ (rs : List (Vec (Option SeatView))). AllByRecursion (λ (r : Vec (Option SeatView)). k ≤ vec_capacity r) rs) (sym is) (by rows each)
  where
    by : (xs : List (Vec (Option SeatView))) → AllByRecursion (λ (r : Vec (Option SeatView)). k ≤ vec_capacity r) xs → AllByRecursion (λ (r : Vec (Option SeatView)). k ≤ vec_capacity r) (xs ++ row ∷ [])
    by [] h = (one, tt)
    by (x ∷ xs) h = (h.0, by xs h.1)

-- so are all rows, once the seats of one more lock were dealt
pub put_dealt : (o : Opening) (n : ℕ) (of : LockView) (seats : List SeatView) (locks_all locks : List LockView) (rows mid : List (List (Option SeatView))) → IsDealt o n of seats → locks_all ≡ locks ++ of ∷ []
    → mid ≡ rows_of locks n → rows ≡ put_each mid seats → rows ≡ rows_of locks_all n
put_dealt o n of seats locks_all locks rows mid d e f h =
    let new : seats ≡ new_seats of.lock of.opening n = d.seats_are ∙ ap (λ (p : Opening). new_seats of.lock p n) (sym d.opens) in
    h ∙ (λ i. put_each (f i) (new i)) ∙ put_new locks of n ∙ ap (λ (ls : List LockView). rows_of ls n) (sym e)

-- rows with a seat of each of a few locks have room for one more
pub rooms_left : (was is : List (Vec (Option SeatView))) (locks : List LockView) (k n : ℕ) → length locks < k → AllByRecursion (λ (r : Vec (Option SeatView)). k ≤ vec_capacity r) was
    → map vec_capacity is ≡ map vec_capacity was → map (λ (r : Vec (Option SeatView)). r.items) is ≡ rows_of locks n → AllByRecursion (λ (r : Vec (Option SeatView)). vec_len r < vec_capacity r) is
rooms_left was [] locks k n few room same rows = tt
rooms_left [] (r ∷ is) locks k n few room same rows = absurd (cc)
rooms_left (w ∷ was) (r ∷ is) locks k zero few room same rows = absurd (cc)
rooms_left (w ∷ was) (r ∷ is) locks k (suc n) few room same rows =
    let cap : vec_capacity r ≡ vec_capacity w = cc in
    let caps : map vec_capacity is ≡ map vec_capacity was = cc in
    let its : r.items ≡ row_of locks n = cc in
    let more : map (λ (x : Vec (Option SeatView)). x.items) is ≡ rows_of locks n = cc in
    (omega (arith, few, room.0, cap, r.ok.0, ap length its, length-map locks (λ (of : LockView). Some (new_seat of.lock of.opening n))), rooms_left was is locks k n few room.1 caps more)

pub each_so : {A : Type 0} → (Is So : A → Type 0) → ((x : A) → Is x → So x) → (xs : List A) → AllByRecursion Is xs → AllByRecursion So xs
each_so Is So f [] h = tt
each_so Is So f (x ∷ xs) h = (f x h.0, each_so Is So f xs h.1)

pub rooms_fewer : (rows : List (Vec (Option SeatView))) (k n : ℕ) → n ≤ k → AllByRecursion (λ (r : Vec (Option SeatView)). k ≤ vec_capacity r) rows → AllByRecursion (λ (r : Vec (Option SeatView)). n ≤ vec_capacity r) rows
rooms_fewer rows k n fewer all = each_so (λ (r : Vec (Option SeatView)). k ≤ vec_capacity r) (λ (r : Vec (Option SeatView)). n ≤ vec_capacity r) (λ r room. omega (arith, room, fewer)) rows all

pub same_seats_so : (was is : List SeatView) → is ≡ was → AllZip IsSameSeat was is
same_seats_so was is e = subst (λ (ss : List SeatView). AllZip IsSameSeat was ss) (sym e) (same_seats was)

pub each_there : (rows : List (Vec (Option SeatView))) (locks : List LockView) (n : ℕ) → map (λ (r : Vec (Option SeatView)). r.items) rows ≡ rows_of locks n → AllByRecursion (λ (r : Vec (Option SeatView)). AreThere r.items) rows
each_there [] locks n h = tt
each_there (r ∷ rows) locks zero h = absurd (cc)
each_there (r ∷ rows) locks (suc n) h =
    let its : r.items ≡ row_of locks n = cc in
    let more : map (λ (x : Vec (Option SeatView)). x.items) rows ≡ rows_of locks n = cc in
    (subst AreThere (sym its) (row_there locks n), each_there rows locks n more)

pub all_long : (rows : List (Vec (Option SeatView))) (locks : List LockView) (n : ℕ) → map (λ (r : Vec (Option SeatView)). r.items) rows ≡ rows_of locks n → length rows ≡ n
all_long rows locks n h = sym (length-map rows (λ (r : Vec (Option SeatView)). r.items)) ∙ ap length h ∙ rows_long locks n

pub dealt_ports : (n : ℕ) (of : LockView) (seats : List SeatView) → IsDealt OfRouter n of seats → AllByRecursion IsNewPort seats
dealt_ports n of seats d = subst (λ (ss : List SeatView). AllByRecursion IsNewPort ss) (sym d.seats_are) (new_ports of.lock n)

-- ---- the last one of a row

module _ {A : Type 0} where
  -- it is put back
  pub put_back : (all first new : List A) (last again : A) → all ≡ first ++ last ∷ [] → new ≡ first ++ again ∷ [] → again ≡ last → new ≡ all
  put_back all first new last again is made same = made ∙ ap (λ (x : A). first ++ x ∷ []) same ∙ sym is

  pub all_but_last : (Is : A → Type 0) (whole first : List A) (last : A) → whole ≡ first ++ last ∷ [] → AllByRecursion Is whole → AllByRecursion Is first
  all_but_last Is whole first last is all = by first (subst (λ (xs : List A). AllByRecursion Is xs) is all)
    where
      by : (xs : List A) → AllByRecursion Is (xs ++ last ∷ []) → AllByRecursion Is xs
      by [] h = tt
      by (x ∷ xs) h = (h.0, by xs h.1)

  pub at_last : (Is : A → Type 0) (whole first : List A) (last : A) → whole ≡ first ++ last ∷ [] → AllByRecursion Is whole → Is last
  at_last Is whole first last is all = by first (subst (λ (xs : List A). AllByRecursion Is xs) is all)
    where
      by : (xs : List A) → AllByRecursion Is (xs ++ last ∷ []) → Is last
      by [] h = h.0
      by (x ∷ xs) h = by xs h.1

pub zip_last : {A B : Type 0} → (R : A → B → Type 0) (olds firsts : List A) (news backs : List B) (old : A) (new : B) → olds ≡ firsts ++ old ∷ [] → news ≡ backs ++ new ∷ [] → AllZip R firsts backs → R old new → AllZip R olds news
zip_last {A} {B} R olds firsts news backs old new e f z one =
    subst (λ (xs : List A). AllZip R xs news) (sym e) (subst (λ (ys : List B). AllZip R (firsts ++ old ∷ []) ys) (sym f) (all_zipped_more R firsts backs old new z one))

-- ---- passes, from the last one on

abbrev rows_in : List (Vec (Option SeatView)) → List (List (Option SeatView))
rows_in rows = map (λ (r : Vec (Option SeatView)). r.items) rows

pub pass_more : (rows_all rows : List (Vec (Option SeatView))) (row : Vec (Option SeatView)) (routers_all routers : List SeatView) (router : SeatView) (catalogs_all catalogs : List SeatView) (catalog : SeatView)
    (passes passes_new whole : List SharedScene) → rows_all ≡ rows ++ row ∷ [] → routers_all ≡ routers ++ router ∷ [] → catalogs_all ≡ catalogs ++ catalog ∷ []
    → passes_new ≡ passes ++ scene_by router catalog row.items last_place None ∷ [] → length routers_all ≡ length rows_all → length catalogs_all ≡ length rows_all
    → passes_of (map (λ (r : Vec (Option SeatView)). r.items) rows_all) routers_all catalogs_all ++ reverse passes ≡ whole → passes_of (map (λ (r : Vec (Option SeatView)). r.items) rows) routers catalogs ++ reverse passes_new ≡ whole
pass_more rows_all rows row routers_all routers router catalogs_all catalogs catalog passes passes_new whole e f g made long wide h =
    let pass : SharedScene = scene_by router catalog row.items last_place None in
    let a : length routers ≡ length (rows_in rows) = omega (arith, long, ap length e, ap length f, length-append rows (row ∷ []), length-append routers (router ∷ []), length-map rows (λ (r : Vec (Option SeatView)). r.items)) in
    let b : length catalogs ≡ length (rows_in rows) = omega (arith, wide, ap length e, ap length g, length-append rows (row ∷ []), length-append catalogs (catalog ∷ []), length-map rows (λ (r : Vec (Option SeatView)). r.items)) in
    let all : passes_of (rows_in rows) routers catalogs ++ pass ∷ [] ≡ passes_of (rows_in rows_all) routers_all catalogs_all =
    sym (pass_last (rows_in rows) routers catalogs row.items router catalog a b)
    ∙ ap (λ (rs : List (List (Option SeatView))). passes_of rs (routers ++ router ∷ []) (catalogs ++ catalog ∷ [])) (sym (map-append (λ (r : Vec (Option SeatView)). r.items) rows (row ∷ [])))
    ∙ (λ i. passes_of (rows_in (sym e i)) (sym f i) (sym g i)) in
    ap (λ (ps : List SharedScene). passes_of (rows_in rows) routers catalogs ++ reverse ps) made
    ∙ ap (λ (ps : List SharedScene). passes_of (rows_in rows) routers catalogs ++ ps) (reverse-append passes (pass ∷ []))
    ∙ sym (append_assoc (passes_of (rows_in rows) routers catalogs) (pass ∷ []) (reverse passes))
    ∙ ap (λ (ps : List SharedScene). ps ++ reverse passes) all
    ∙ h

pub pass_end : (rows : List (Vec (Option SeatView))) (routers catalogs : List SeatView) (passes passes_new whole : List SharedScene) → rows ≡ [] → passes_new ≡ reverse passes
    → passes_of (map (λ (r : Vec (Option SeatView)). r.items) rows) routers catalogs ++ reverse passes ≡ whole → passes_new ≡ whole
pass_end rows routers catalogs passes passes_new whole none turned h =
    turned ∙ sym (ap (λ (rs : List (Vec (Option SeatView))). passes_of (rows_in rs) routers catalogs ++ reverse passes) none) ∙ h
