-- Locks of a row that end one after the other, the last one first.
use Rattle.std.proofs.Common.{◌≡◌, ◌++◌, ◌<◌, ℕ, Bool, true, List, [], ◌∷◌, map, Option, Some, None, refl, sym, ap, subst, ◌∙◌, arith, length, append-nil, reverse}
use Rattle.std.specs.List.{AllByRecursion, AllZip}
use Rattle.std.specs.Prelude.{◌==◌}
use Rattle.std.proofs.lemmas.Bool.{eqb-true}
use Rattle.std.proofs.lemmas.List.{append_assoc, nil_from_length, reverse-append}
use Rattle.std.proofs.lemmas.Slice.Zip.{AllZip-long}
use Rattle.atomic_table.specs.Seated.{TableId}
use Rattle.js_model.specs.declared.stream.State.{State}
use Rattle.place_engine.specs.Stepping.{Image, Seen}
use Rattle.histories.specs.Entries.{Opening, OfPlace, OfRouter, OfCatalog}
use Rattle.histories.specs.Fronts.{own}
use Rattle.turn_lock.specs.Calls.{HasAll, IsJoined}
use Rattle.turn_lock.specs.Seats.{LockView, SeatView}
use Rattle.hub_place.specs.Holds.{SendsTo}
use Rattle.hub_place.specs.Kinds.{PlaceIs}
use Rattle.shared_desk.specs.Joining.{HaveAll, UnlockRow, UnlocksEach, UnlocksOne}
use Rattle.shared_desk.specs.Seats.{AreThere, IsSeatOf, seats_in}

-- ---- rows by their last one

pub emptied : {X : Type 0} (xs : List X) (n : ℕ) (b : Bool) → n ≡ length xs → b ≡ (n == 0) → b ≡ true → xs ≡ []
emptied xs n b long is empty = nil_from_length xs (sym long ∙ eqb-true n 0 (sym is ∙ empty))

module _ {A B : Type 0} (R : A → B → Type 0) where
  none_behind : (x : A) (xs : List A) → AllZip R (xs ++ x ∷ []) [] → ⊥
  none_behind x [] h = h
  none_behind x (a ∷ xs) h = h

  none_before : (y : B) (ys : List B) → AllZip R [] (ys ++ y ∷ []) → ⊥
  none_before y [] h = h
  none_before y (b ∷ ys) h = h

  pub zip_last : (xs : List A) (x : A) (ys : List B) (y : B) → AllZip R (xs ++ x ∷ []) (ys ++ y ∷ []) → AllZip R xs ys × R x y
  zip_last [] x [] y h = (tt, h.0)
  zip_last [] x (b ∷ ys) y h = absurd (none_before y ys h.1)
  zip_last (a ∷ xs) x [] y h = absurd (none_behind x xs h.1)
  zip_last (a ∷ xs) x (b ∷ ys) y h = let more = zip_last xs x ys y h.1 in ((h.0, more.0), more.1)

-- the last seat of a row in which each is there
pub record LastSeat (row rest : List (Option SeatView)) (found : Option SeatView) : Type 0 where
  pub seat : SeatView
  pub is : found ≡ Some seat
  pub there : AreThere rest
  pub seats_are : seats_in row ≡ seats_in rest ++ seat ∷ []

not_away : (more : List (Option SeatView)) (seats : List SeatView) → None ∷ more ≡ map Some seats → ⊥
not_away more [] e = absurd (cc)
not_away more (s ∷ seats) e = absurd (cc)

tail_is : (x y : Option SeatView) (xs ys : List (Option SeatView)) → x ∷ xs ≡ y ∷ ys → xs ≡ ys
tail_is x y xs ys e = cc

last_seat_of : (rest : List (Option SeatView)) (found : Option SeatView) → AreThere (rest ++ found ∷ []) → LastSeat (rest ++ found ∷ []) rest found
last_seat_of [] None there = absurd (not_away [] [] there)
last_seat_of [] (Some seat) there = record { seat = seat; is = refl; there = refl; seats_are = refl }
last_seat_of (None ∷ rest) found there = absurd (not_away (rest ++ found ∷ []) (seats_in (rest ++ found ∷ [])) there)
last_seat_of (Some s ∷ rest) found there =
    let more = last_seat_of rest found (tail_is (Some s) (Some s) (rest ++ found ∷ []) (map Some (seats_in (rest ++ found ∷ []))) there) in
    record { seat = more.seat; is = more.is; there = ap (λ (os : List (Option SeatView)). Some s ∷ os) more.there; seats_are = ap (λ (ss : List SeatView). s ∷ ss) more.seats_are }

pub last_seat : (row rest : List (Option SeatView)) (found : Option SeatView) → row ≡ rest ++ found ∷ [] → AreThere row → LastSeat row rest found
last_seat row rest found e there =
    subst (λ (r : List (Option SeatView)). LastSeat r rest found) (sym e) (last_seat_of rest found (subst AreThere e there))

-- ---- what may end

-- the seat is all that is left of the lock, and its place sends by a seat of that other lock
pub record MayEnd (router : TableId) (of : LockView) (seat : SeatView) : Type 0 where
  pub is : IsSeatOf of seat
  pub all : HasAll of.seats seat.numbers
  pub sends : SendsTo of.opening router

pub may_end : (router : TableId) (locks : List LockView) (seats : List SeatView) → AllZip IsSeatOf locks seats → HaveAll locks seats → AllByRecursion (λ (of : LockView). SendsTo of.opening router) locks
    → AllZip (MayEnd router) locks seats
may_end router [] [] are all sends = tt
may_end router [] (seat ∷ seats) are all sends = absurd are
may_end router (of ∷ locks) [] are all sends = absurd are
may_end router (of ∷ locks) (seat ∷ seats) are all sends = (record { is = are.0; all = all.0; sends = sends.0 }, may_end router locks seats are.1 all.1 sends.1)

-- no seat of the row is away
pub none_away : (row rest : List (Option SeatView)) (found : Option SeatView) → found ≡ None → row ≡ rest ++ found ∷ [] → AreThere row → ⊥
none_away row rest found none e there = let last = last_seat row rest found e there in absurd (cc (none, last.is))

-- of the last lock and the last seat, and of the others
pub record LastMay (router : TableId) (rest : List LockView) (of : LockView) (row fewer : List (Option SeatView)) (seat : SeatView) : Type 0 where
  pub there : AreThere fewer
  pub seats_are : seats_in row ≡ seats_in fewer ++ seat ∷ []
  pub others : AllZip (MayEnd router) rest (seats_in fewer)
  pub last : MayEnd router of seat

pub last_may : (router : TableId) (locks rest : List LockView) (of : LockView) (row fewer : List (Option SeatView)) (seat : SeatView) → locks ≡ rest ++ of ∷ [] → row ≡ fewer ++ Some seat ∷ [] → AreThere row
    → AllZip (MayEnd router) locks (seats_in row) → LastMay router rest of row fewer seat
last_may router locks rest of row fewer seat locks_are row_is there may =
    let last = last_seat row fewer (Some seat) row_is there in
    let same : last.seat ≡ seat = some_is last.seat seat (sym last.is) in
    let seats_are : seats_in row ≡ seats_in fewer ++ seat ∷ [] = last.seats_are ∙ ap (λ (s : SeatView). seats_in fewer ++ s ∷ []) same in
    let zipped : AllZip (MayEnd router) (rest ++ of ∷ []) (seats_in fewer ++ seat ∷ []) =
    subst (λ (ls : List LockView). AllZip (MayEnd router) ls (seats_in fewer ++ seat ∷ [])) locks_are (subst (AllZip (MayEnd router) locks) seats_are may)
    in
    let both = zip_last (MayEnd router) rest of (seats_in fewer) seat zipped in
    record { there = last.there; seats_are = seats_are; others = both.0; last = both.1 }
  where
    some_is : (x y : SeatView) → Some x ≡ Some y → x ≡ y
    some_is x y e = cc

-- a lock is left, and so is a seat
pub some_left : (router : TableId) (locks : List LockView) (row : List (Option SeatView)) → AreThere row → AllZip (MayEnd router) locks (seats_in row) → 0 < length locks → 0 < length row
some_left router locks [] there may some = let same = AllZip-long (MayEnd router) locks [] may in omega (arith, same, some)
some_left router locks (o ∷ row) there may some = omega arith

-- ---- what has ended

module _ {P V : Type 0} (seen : P → Seen) (vol : P → V) (holds : Image → State → Type 0) (left : V → ℕ → Image → Type 0) (clock : V → ℕ) (base : Option ℕ → V → State → Type 0) (keeps : V → V → Type 0) where
  -- the locks behind the others have ended, and their places stand in the other order
  pub record Ended (locks rest : List LockView) (seats others : List SeatView) (row : List P) (old new : SeatView) : Type 0 where
    pub ended : List LockView
    pub spent : List SeatView
    pub locks_are : locks ≡ rest ++ ended
    pub seats_are : seats ≡ others ++ spent
    pub unlocks : UnlocksEach seen vol holds left clock base keeps ended spent (reverse row) old new

  pub none_ended : (locks : List LockView) (seats : List SeatView) (row : List P) (old : SeatView) → row ≡ [] → Ended locks locks seats seats row old old
  none_ended locks seats row old none = record {
    ended = [];
    spent = [];
    locks_are = sym (append-nil locks);
    seats_are = sym (append-nil seats);
    unlocks = record { ports = []; row_is = subst (λ (r : List P). UnlockRow seen vol holds left clock base keeps [] [] (reverse r) []) (sym none) tt; joined = refl };
  }

  module _ (router : TableId) (of : LockView) (seat : SeatView) (place : P) (port : SeatView) (may : MayEnd router of seat) (whole : own seat.numbers seat.front ≡ seat.front)
      (stands : PlaceIs holds left clock base keeps seat.opening seat.front (seen place).place (vol place) port) where
    pub unlocks_one : UnlocksOne seen vol holds left clock base keeps of seat place port
    unlocks_one = record { all = record { opening = may.is.opening; whole = whole }; stands = stands }

    -- the port is a seat of the router's lock
    pub port_of : port.lock ≡ router
    port_of = by seat.opening stands (subst (λ (o : Opening). SendsTo o router) (sym may.is.opening) may.sends)
      where
        by : (o : Opening) → PlaceIs holds left clock base keeps o seat.front (seen place).place (vol place) port → SendsTo o router → port.lock ≡ router
        by (OfPlace state faults id) h sends = h.seat.lock ∙ sends
        by OfRouter h sends = absurd h
        by (OfCatalog catalog) h sends = absurd h

  -- the place and the port come apart
  pub parted : (seat : SeatView) (place place_is : P) (port port_is : SeatView) → place_is ≡ place → port_is ≡ port
      → PlaceIs holds left clock base keeps seat.opening seat.front (seen place).place (vol place) port → PlaceIs holds left clock base keeps seat.opening seat.front (seen place_is).place (vol place_is) port_is
  parted seat place place_is port port_is same_place same_port stands =
      subst (λ (p : P). PlaceIs holds left clock base keeps seat.opening seat.front (seen p).place (vol p) port_is) (sym same_place)
      (subst (λ (s : SeatView). PlaceIs holds left clock base keeps seat.opening seat.front (seen place).place (vol place) s) (sym same_port) stands)

  -- one more
  pub one_ended : (locks mid rest : List LockView) (seats others fewer : List SeatView) (row row_new : List P) (old all new : SeatView) (of : LockView) (seat : SeatView) (place : P) (port : SeatView)
      → Ended locks mid seats others row old all → mid ≡ rest ++ of ∷ [] → others ≡ fewer ++ seat ∷ [] → UnlocksOne seen vol holds left clock base keeps of seat place port
      → row_new ≡ row ++ place ∷ [] → IsJoined port all new → Ended locks rest seats fewer row_new old new
  one_ended locks mid rest seats others fewer row row_new old all new of seat place port h mid_is others_are unlocks row_is joined = record {
    ended = of ∷ h.ended;
    spent = seat ∷ h.spent;
    locks_are = h.locks_are ∙ (ap (λ (ls : List LockView). ls ++ h.ended) mid_is ∙ append_assoc rest (of ∷ []) h.ended);
    seats_are = h.seats_are ∙ (ap (λ (ss : List SeatView). ss ++ h.spent) others_are ∙ append_assoc fewer (seat ∷ []) h.spent);
    unlocks = record {
      ports = port ∷ h.unlocks.ports;
      row_is =
          subst (λ (r : List P). UnlockRow seen vol holds left clock base keeps (of ∷ h.ended) (seat ∷ h.spent) r (port ∷ h.unlocks.ports)) (sym (ap reverse row_is ∙ reverse-append row (place ∷ [])))
          (unlocks, h.unlocks.row_is);
      joined = (all, h.unlocks.joined, joined);
    };
  }

  -- all
  pub all_ended : (locks rest : List LockView) (seats : List SeatView) (left_row : List (Option SeatView)) (row row_new : List P) (old new : SeatView) (router : TableId)
      → Ended locks rest seats (seats_in left_row) row old new → rest ≡ [] → AllZip (MayEnd router) rest (seats_in left_row) → row_new ≡ reverse row
      → UnlocksEach seen vol holds left clock base keeps locks seats row_new old new
  all_ended locks rest seats left_row row row_new old new router h none may turned =
      subst (λ (r : List P). UnlocksEach seen vol holds left clock base keeps locks seats r old new) (sym turned)
      (subst (λ (ls : List LockView). UnlocksEach seen vol holds left clock base keeps ls seats (reverse row) old new) (sym (h.locks_are ∙ ap (λ (ls : List LockView). ls ++ h.ended) none))
      (subst (λ (ss : List SeatView). UnlocksEach seen vol holds left clock base keeps h.ended ss (reverse row) old new) (sym (h.seats_are ∙ ap (λ (ss : List SeatView). ss ++ h.spent) no_seats)) h.unlocks))
    where
      empty : (ss : List SeatView) → AllZip (MayEnd router) [] ss → ss ≡ []
      empty [] m = refl
      empty (s ∷ ss) m = absurd m

      no_seats : seats_in left_row ≡ []
      no_seats = empty (seats_in left_row) (subst (λ (ls : List LockView). AllZip (MayEnd router) ls (seats_in left_row)) none may)
