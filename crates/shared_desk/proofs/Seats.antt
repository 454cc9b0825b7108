-- The seats of a caller stay those of its hub.
use Rattle.std.proofs.Common.{◌≡◌, ◌<◌, ◌++◌, ℕ, zero, suc, List, [], ◌∷◌, map, Option, Some, None, refl, sym, ap, subst, ◌∙◌, ◌≤◌, ◌+◌, IfSome, get_or, append_assoc, length-append, arith}
use Rattle.std.specs.Prelude.{length, slice_get, slice_set}
use Rattle.std.proofs.lemmas.Option.{slice_get_read, slice_get_within}
use Rattle.std.proofs.Math.Seq.{get_or-append_seam}
use Rattle.std.specs.List.{AllZip, AllByRecursion}
use Rattle.histories.specs.Entries.{Entry, Opening}
use Rattle.turn_lock.specs.Calls.{HasMet, IsJoined, worn}
use Rattle.turn_lock.specs.Seats.{LockView, SeatView}
use Rattle.hub_fronts.specs.Turns.{HasSeen, Leaves, TakesTurn}
use Rattle.desk_places.proofs.Sets.{length_set, set_same}
use Rattle.shared_desk.proofs.Rows.{row_at, row_long}
use Rattle.shared_desk.specs.Seats.{AllThree, AreThere, IsSeatOf, IsSeated, seats_in}

-- ---- one seat

module _ (of : LockView) (old new : SeatView) where
  pub same_seat : new.lock ≡ old.lock → new.opening ≡ old.opening → IsSeatOf of old → IsSeatOf of new
  same_seat lock opening is = record { lock = lock ∙ is.lock; opening = opening ∙ is.opening }

  module _ (lawful : Opening → List Entry → Type 0) (entries : List Entry) where
    pub left_seat : Leaves lawful entries old new → IsSeatOf of old → IsSeatOf of new
    left_seat leaves is = same_seat (ap (λ (s : SeatView). s.lock) leaves.behind) (ap (λ (s : SeatView). s.opening) leaves.behind) is

    pub turned_seat : TakesTurn lawful entries old new → IsSeatOf of old → IsSeatOf of new
    turned_seat turn is =
        same_seat (ap (λ (s : SeatView). s.lock) turn.leaves.behind ∙ turn.sees.lock) (ap (λ (s : SeatView). s.opening) turn.leaves.behind ∙ turn.sees.opening) is

  pub seen_seat : HasSeen old new → IsSeatOf of old → IsSeatOf of new
  seen_seat sees is = same_seat sees.lock sees.opening is

  pub met_seat : (other : SeatView) → HasMet old other new → IsSeatOf of old → IsSeatOf of new
  met_seat other met is = same_seat met.lock met.opening is

  pub joined_seat : (other : SeatView) → IsJoined old other new → IsSeatOf of old → IsSeatOf of new
  joined_seat other joined is = same_seat joined.lock joined.opening is

  pub worn_seat : new ≡ worn old → IsSeatOf of old → IsSeatOf of new
  worn_seat e is = same_seat (ap (λ (s : SeatView). s.lock) e) (ap (λ (s : SeatView). s.opening) e) is

-- ---- a row of seats

pub seats_are : (seats : List SeatView) → seats_in (map Some seats) ≡ seats
seats_are [] = refl
seats_are (s ∷ seats) = ap (λ (more : List SeatView). s ∷ more) (seats_are seats)

pub all_there : (row : List (Option SeatView)) (seats : List SeatView) → row ≡ map Some seats → AreThere row
all_there row seats e = e ∙ ap (λ (more : List SeatView). map Some more) (sym (ap seats_in e ∙ seats_are seats))

pub row_is : (row : List (Option SeatView)) (seats : List SeatView) → row ≡ map Some seats → seats_in row ≡ seats
row_is row seats e = ap seats_in e ∙ seats_are seats

-- one of them is another one of its lock then
pub zip_set : (locks : List LockView) (seats : List SeatView) (n : ℕ) (of : LockView) (new : SeatView) → AllZip IsSeatOf locks seats → slice_get locks n ≡ Some of → IsSeatOf of new → AllZip IsSeatOf locks (slice_set seats n new)
zip_set [] [] n of new all there is = absurd (cc)
zip_set [] (s ∷ seats) n of new all there is = absurd all
zip_set (l ∷ locks) [] n of new all there is = absurd all
zip_set (l ∷ locks) (s ∷ seats) zero of new all there is = (subst (λ (x : LockView). IsSeatOf x new) (some_is of l there) is, all.1)
  where
    some_is : (x y : LockView) → Some y ≡ Some x → x ≡ y
    some_is x y e = cc
zip_set (l ∷ locks) (s ∷ seats) (suc n) of new all there is = (all.0, zip_set locks seats n of new all.1 there is)

-- the seat of a number is one of the lock of that number
pub zip_get : (locks : List LockView) (seats : List SeatView) (n : ℕ) (of : LockView) (seat : SeatView) → AllZip IsSeatOf locks seats → slice_get locks n ≡ Some of → slice_get seats n ≡ Some seat → IsSeatOf of seat
zip_get [] seats n of seat all there is = absurd (cc)
zip_get (l ∷ locks) [] n of seat all there is = absurd all
zip_get (l ∷ locks) (s ∷ seats) zero of seat all there is = subst (λ (x : SeatView). IsSeatOf of x) (seat_is s seat is) (subst (λ (x : LockView). IsSeatOf x s) (lock_is l of there) all.0)
  where
    lock_is : (x y : LockView) → Some x ≡ Some y → x ≡ y
    lock_is x y e = cc

    seat_is : (x y : SeatView) → Some x ≡ Some y → x ≡ y
    seat_is x y e = cc
zip_get (l ∷ locks) (s ∷ seats) (suc n) of seat all there is = zip_get locks seats n of seat all.1 there is

pub zip_long : (locks : List LockView) (seats : List SeatView) → AllZip IsSeatOf locks seats → length seats ≡ length locks
zip_long [] [] all = refl
zip_long [] (s ∷ seats) all = absurd all
zip_long (l ∷ locks) [] all = absurd all
zip_long (l ∷ locks) (s ∷ seats) all = ap (λ (n : ℕ). suc n) (zip_long locks seats all.1)

-- what holds of each lock of a row holds of the one of a number
pub all_at : (P : LockView → Type 0) (locks : List LockView) (n : ℕ) (of : LockView) → AllByRecursion P locks → slice_get locks n ≡ Some of → P of
all_at P [] n of all there = absurd (cc)
all_at P (l ∷ locks) zero of all there = subst P (lock_is l of there) all.0
  where
    lock_is : (x y : LockView) → Some x ≡ Some y → x ≡ y
    lock_is x y e = cc
all_at P (l ∷ locks) (suc n) of all there = all_at P locks n of all.1 there

-- ---- a row into which a seat was put

pub record IsPut (locks : List LockView) (seats : List SeatView) (n : ℕ) (new : SeatView) (put : List (Option SeatView)) : Type 0 where
  pub there : AreThere put
  pub seats_are : seats_in put ≡ slice_set seats n new
  pub own : AllZip IsSeatOf locks (seats_in put)

pub is_put : (locks : List LockView) (seats : List SeatView) (n : ℕ) (of : LockView) (new : SeatView) (put : List (Option SeatView)) → AllZip IsSeatOf locks seats → slice_get locks n ≡ Some of → IsSeatOf of new
    → put ≡ map Some (slice_set seats n new) → IsPut locks seats n new put
is_put locks seats n of new put all there is e = record {
  there = all_there put (slice_set seats n new) e;
  seats_are = row_is put (slice_set seats n new) e;
  own = subst (λ (row : List SeatView). AllZip IsSeatOf locks row) (sym (row_is put (slice_set seats n new) e)) (zip_set locks seats n of new all there is);
}

-- ---- three rows, the last place first

-- from this place on they are so, and before it the third is still the first
abbrev pub ThreeFrom : (SeatView → SeatView → SeatView → Type 0) → ℕ → List SeatView → List SeatView → List SeatView → Type 0
ThreeFrom Are zero xs ys zs = AllThree Are xs ys zs
ThreeFrom Are (suc n) [] ys zs = ⊥
ThreeFrom Are (suc n) (x ∷ xs) [] zs = ⊥
ThreeFrom Are (suc n) (x ∷ xs) (y ∷ ys) [] = ⊥
ThreeFrom Are (suc n) (x ∷ xs) (y ∷ ys) (z ∷ zs) = (z ≡ x) × ThreeFrom Are n xs ys zs

module _ (Are : SeatView → SeatView → SeatView → Type 0) where
  pub three_none : (xs ys : List SeatView) → length ys ≡ length xs → ThreeFrom Are (length xs) xs ys xs
  three_none [] [] e = tt
  three_none [] (y ∷ ys) e = absurd (cc)
  three_none (x ∷ xs) [] e = absurd (cc)
  three_none (x ∷ xs) (y ∷ ys) e = (refl, three_none xs ys (cc))

  three_same : (x y z a b w : SeatView) (xs ys zs : List SeatView) → z ≡ x → Some z ≡ Some a → Some y ≡ Some b → Are a b w → AllThree Are xs ys zs → Are x y w × AllThree Are xs ys zs
  three_same x y z a b w xs ys zs e f h are more = (subst (λ (s : SeatView). Are s y w) (is_first x z a e f) (subst (λ (s : SeatView). Are a s w) (is_second y b h) are), more)
    where
      is_first : (x z a : SeatView) → z ≡ x → Some z ≡ Some a → a ≡ x
      is_first x z a e f = cc

      is_second : (y b : SeatView) → Some y ≡ Some b → b ≡ y
      is_second y b h = cc

  pub three_more : (n : ℕ) (xs ys zs : List SeatView) (z y new : SeatView) → ThreeFrom Are (suc n) xs ys zs → slice_get zs n ≡ Some z → slice_get ys n ≡ Some y → Are z y new → ThreeFrom Are n xs ys (slice_set zs n new)
  three_more n [] ys zs a b w h is other are = absurd h
  three_more n (x ∷ xs) [] zs a b w h is other are = absurd h
  three_more n (x ∷ xs) (y ∷ ys) [] a b w h is other are = absurd h
  three_more zero (x ∷ xs) (y ∷ ys) (z ∷ zs) a b w h is other are = three_same x y z a b w xs ys zs h.0 is other are h.1
  three_more (suc n) (x ∷ xs) (y ∷ ys) (z ∷ zs) a b w h is other are = (h.0, three_more n xs ys zs a b w h.1 is other are)

-- a row of seats of these locks that has become the third one from this place on
pub record IsThird (Are : SeatView → SeatView → SeatView → Type 0) (locks : List LockView) (ones others row : List (Option SeatView)) (n : ℕ) : Type 0 where
  pub there : AreThere row
  pub own : AllZip IsSeatOf locks (seats_in row)
  pub three : ThreeFrom Are n (seats_in ones) (seats_in others) (seats_in row)

-- with the last seats of the second one taken out
pub record TakesThird (Are : SeatView → SeatView → SeatView → Type 0) (locks : List LockView) (ones others row left : List (Option SeatView)) : Type 0 where
  pub rest : List (Option SeatView)
  pub behind : others ≡ left ++ rest
  pub third : IsThird Are locks ones others row (length left)

module _ (Are : SeatView → SeatView → SeatView → Type 0) (locks : List LockView) (ones others : List (Option SeatView)) where
  pub third_none : (n : ℕ) → n ≡ length (seats_in ones) → AreThere ones → AllZip IsSeatOf locks (seats_in ones) → AllZip IsSeatOf locks (seats_in others) → IsThird Are locks ones others ones n
  third_none n count there own other = record {
    there = there;
    own = own;
    three =
        subst (λ (m : ℕ). ThreeFrom Are m (seats_in ones) (seats_in others) (seats_in ones)) (sym count)
        (three_none Are (seats_in ones) (seats_in others) (zip_long locks (seats_in others) other ∙ sym (zip_long locks (seats_in ones) own)));
  }

  module _ (row : List (Option SeatView)) (n : ℕ) where
    pub third_more : (of : LockView) (one other new : SeatView) (put : List (Option SeatView)) → IsThird Are locks ones others row (suc n) → slice_get locks n ≡ Some of → slice_get (seats_in row) n ≡ Some one
        → slice_get (seats_in others) n ≡ Some other → Are one other new → IsSeatOf of new → put ≡ map Some (slice_set (seats_in row) n new) → IsThird Are locks ones others put n
    third_more of one other new put h there is is_other are own e =
        let k = is_put locks (seats_in row) n of new put h.own there own e in
        record {
          there = k.there;
          own = k.own;
          three = subst (λ (seats : List SeatView). ThreeFrom Are n (seats_in ones) (seats_in others) seats) (sym k.seats_are) (three_more Are n (seats_in ones) (seats_in others) (seats_in row) one other new h.three is is_other are);
        }

  pub third_all : (row : List (Option SeatView)) (n : ℕ) → n ≡ 0 → IsThird Are locks ones others row n → AllThree Are (seats_in ones) (seats_in others) (seats_in row)
  third_all row n none h = subst (λ (m : ℕ). ThreeFrom Are m (seats_in ones) (seats_in others) (seats_in row)) none h.three

  -- ---- the last seat of the second one is taken out

  pub record IsNext (n : ℕ) (found : Option SeatView) : Type 0 where
    pub seat : SeatView
    pub is : found ≡ Some seat
    pub there : slice_get (seats_in others) n ≡ Some seat
    pub within : n < length locks

  module _ (row left new : List (Option SeatView)) (found : Option SeatView) (n : ℕ) (h : TakesThird Are locks ones others row left) (last : left ≡ new ++ found ∷ []) (count : n ≡ length new) where
    behind_last : others ≡ new ++ found ∷ h.rest
    behind_last = h.behind ∙ (ap (λ (seats : List (Option SeatView)). seats ++ h.rest) last ∙ append_assoc new (found ∷ []) h.rest)

    pub next_is : AreThere others → AllZip IsSeatOf locks (seats_in others) → IsNext n found
    next_is there all =
        let long : length others ≡ length new + suc (length h.rest) = ap length behind_last ∙ length-append new (found ∷ h.rest) in
        let within : n < length (seats_in others) = omega (arith, long, row_long others there) in
        let a = row_at others n found there within (sym (ap (λ (seats : List (Option SeatView)). get_or seats n found) behind_last ∙ (ap (λ (m : ℕ). get_or (new ++ found ∷ h.rest) m found) count ∙ get_or-append_seam new found h.rest found))) in
        record { seat = a.seat; is = a.is; there = a.there; within = omega (arith, within, zip_long locks (seats_in others) all) }

    pub takes_more : (of : LockView) (one other joined : SeatView) (put : List (Option SeatView)) → slice_get locks n ≡ Some of → slice_get (seats_in row) n ≡ Some one → slice_get (seats_in others) n ≡ Some other → Are one other joined
        → IsSeatOf of joined → put ≡ map Some (slice_set (seats_in row) n joined) → TakesThird Are locks ones others put new
    takes_more of one other joined put there is is_other are own e =
        let long : length left ≡ suc n = ap length last ∙ (length-append new (found ∷ []) ∙ omega (arith, count)) in
        record {
          rest = found ∷ h.rest;
          behind = behind_last;
          third =
              subst (λ (m : ℕ). IsThird Are locks ones others put m) count
              (third_more row n of one other joined put (subst (λ (m : ℕ). IsThird Are locks ones others row m) long h.third) there is is_other are own e);
        }

-- ---- a row out of which a seat was taken

pub away_is : (row taken : List (Option SeatView)) (n : ℕ) → AreThere row → taken ≡ slice_set row n None → taken ≡ slice_set (map Some (seats_in row)) n None
away_is row taken n there e = e ∙ ap (λ (seats : List (Option SeatView)). slice_set seats n None) there

pub away_within : (row taken : List (Option SeatView)) (n : ℕ) → AreThere row → n < length (seats_in row) → taken ≡ slice_set row n None → n < length taken
away_within row taken n there within e = omega (arith, within, row_long row there, ap length e ∙ length_set row n None)

-- it was put back as it was
pub back_same : (row taken put : List (Option SeatView)) (n : ℕ) (seat new : SeatView) → AreThere row → taken ≡ slice_set row n None → slice_get (seats_in row) n ≡ Some seat → new ≡ seat
    → put ≡ map Some (slice_set (seats_in row) n new) → put ≡ row
back_same row taken put n seat new there e is same back =
    back ∙ (ap (λ (s : SeatView). map Some (slice_set (seats_in row) n s)) same ∙ (ap (λ (seats : List SeatView). map Some seats) (set_same (seats_in row) n seat is) ∙ sym there))

-- ---- what holds of each seat of a row

abbrev pub HoldsIn : (SeatView → Type 0) → List (Option SeatView) → ℕ → Type 0
HoldsIn P row n = (found : Option SeatView) → slice_get row n ≡ Some found → IfSome found P

module _ (P : SeatView → Type 0) where
  pub holds_at : (row : List (Option SeatView)) (n : ℕ) (found : Option SeatView) → n < length row → found ≡ get_or row n found → IfSome found P → HoldsIn P row n
  holds_at row n found within is h = λ other there. subst (λ (o : Option SeatView). IfSome o P) (same other there) h
    where
      same : (other : Option SeatView) → slice_get row n ≡ Some other → found ≡ other
      same other there = let e : slice_get row n ≡ Some found = slice_get_read row (length row) n found refl within is in cc

  pub all_hold : (row : List (Option SeatView)) → ((n : ℕ) → HoldsIn P row n) → AllByRecursion P (seats_in row)
  all_hold [] h = tt
  all_hold (None ∷ row) h = all_hold row (λ n. h (suc n))
  all_hold (Some seat ∷ row) h = (h 0 (Some seat) refl, all_hold row (λ n. h (suc n)))

  pub all_held : (row now : List (Option SeatView)) (n : ℕ) → now ≡ row → length now ≤ n → ((k : ℕ) → k < n → HoldsIn P now k) → AllByRecursion P (seats_in row)
  all_held row now n e long h =
      subst (λ (seats : List (Option SeatView)). AllByRecursion P (seats_in seats)) e
      (all_hold now (λ k found there. h k (let within : k < length now = slice_get_within now k found there in omega (arith, within, long)) found there))

  pub some_holds : (found : Option SeatView) (seat : SeatView) → found ≡ Some seat → P seat → IfSome found P
  some_holds found seat is h = subst (λ (o : Option SeatView). IfSome o P) (sym is) h

  pub none_holds : (found : Option SeatView) → found ≡ None → IfSome found P
  none_holds found is = subst (λ (o : Option SeatView). IfSome o P) (sym is) tt
