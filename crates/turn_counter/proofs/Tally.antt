-- What turns add to what a seat has left.
use Rattle.std.proofs.Common.{◌≡◌, ◌<◌, ℕ, zero, suc, ◌+◌, List, [], ◌∷◌, ◌++◌, length, Bool, true, false, cond, ◌||◌, true≢false, refl, sym, ap, ◌∙◌, subst, arith, length-append}
use Rattle.std.specs.Prelude.{◌==◌}
use Rattle.std.proofs.lemmas.List.Folds.{list_any-append}
use Rattle.js_base.specs.Bytes.{has}
use Rattle.js_model.specs.Lists.{Apart}
use Rattle.histories.specs.Entries.{Entry, seat_of}
use Rattle.histories.specs.Fronts.{own, Grows}
use Rattle.histories.proofs.Own.{own-grows}
use Rattle.turn_lock.specs.Seats.{SeatView}
use Rattle.turn_lock.specs.Calls.{IsJoined, HasAll, added}
use Rattle.turn_counter.specs.Counting.{left_by, HasCounted}

count_if : (b c : Bool) (e : Entry) (xs ys zs : List Entry) → (b ≡ true → c ≡ false) → length xs ≡ length ys + length zs
    → length (cond (b || c) (e ∷ xs) xs) ≡ length (cond b (e ∷ ys) ys) + length (cond c (e ∷ zs) zs)
count_if true true e xs ys zs f l = absurd (true≢false (f refl))
count_if true false e xs ys zs f l = omega arith
count_if false true e xs ys zs f l = omega arith
count_if false false e xs ys zs f l = l

own-both : (ns ms : List ℕ) (l : List Entry) → Apart ns ms → length (own (ns ++ ms) l) ≡ length (own ns l) + length (own ms l)
own-both ns ms [] apart = refl
own-both ns ms (e ∷ es) apart = ap (λ (b : Bool). length (cond b (e ∷ own (ns ++ ms) es) (own (ns ++ ms) es))) (list_any-append (λ m. m == seat_of e) ns ms)
    ∙ count_if (has ns (seat_of e)) (has ms (seat_of e)) e (own (ns ++ ms) es) (own ns es) (own ms es) (apart.apart (seat_of e)) (own-both ns ms es apart)

-- a seat joined of two has left as many entries as both
pub joined_count : (one other new : SeatView) → IsJoined one other new → left_by new ≡ left_by one + left_by other
joined_count one other new j =
    let all : left_by new ≡ length (own (one.numbers ++ other.numbers) new.front) = ap (λ (ns : List ℕ). length (own ns new.front)) j.numbers in
    let both = own-both one.numbers other.numbers new.front j.apart in
    let first = ap length (own-grows one.numbers one.front new.front j.first) in let second = ap length (own-grows other.numbers other.front new.front j.second) in omega arith

-- ---- the numbers that a lock gave

pub has_one : (seats : ℕ) (numbers : List ℕ) → seats ≡ 1 → numbers ≡ 0 ∷ [] → HasAll seats numbers
has_one seats numbers one is n less = subst (λ (ns : List ℕ). has ns n ≡ true) (sym is) (below_one n (omega arith))
  where
    below_one : (n : ℕ) → n < 1 → has (0 ∷ []) n ≡ true
    below_one zero h = refl
    below_one (suc n) h = absurd (omega arith)

pub has_two : (seats : ℕ) (numbers : List ℕ) → seats ≡ 2 → numbers ≡ 0 ∷ 1 ∷ [] → HasAll seats numbers
has_two seats numbers two is n less = subst (λ (ns : List ℕ). has ns n ≡ true) (sym is) (below_two n (omega arith))
  where
    below_two : (n : ℕ) → n < 2 → has (0 ∷ 1 ∷ []) n ≡ true
    below_two zero h = refl
    below_two (suc zero) h = refl
    below_two (suc (suc n)) h = absurd (omega arith)

pub has_four : (seats : ℕ) (numbers : List ℕ) → seats ≡ 4 → numbers ≡ 0 ∷ 1 ∷ 2 ∷ 3 ∷ [] → HasAll seats numbers
has_four seats numbers four is n less = subst (λ (ns : List ℕ). has ns n ≡ true) (sym is) (below_four n (omega arith))
  where
    below_four : (n : ℕ) → n < 4 → has (0 ∷ 1 ∷ 2 ∷ 3 ∷ []) n ≡ true
    below_four zero h = refl
    below_four (suc zero) h = refl
    below_four (suc (suc zero)) h = refl
    below_four (suc (suc (suc zero))) h = refl
    below_four (suc (suc (suc (suc n)))) h = absurd (omega arith)

-- ---- the count at the end

-- every entry is the seat's own, so that the count is how many it has left
pub all_left : (s : SeatView) (count : ℕ) → own s.numbers s.front ≡ s.front → count ≡ length s.front → count ≡ left_by s
all_left s count whole is = is ∙ ap length (sym whole)

-- ---- counting on

-- a seat that came in and left with one entry
pub counts_on : (seat held new : SeatView) (entry : Entry) → held.lock ≡ seat.lock → held.numbers ≡ seat.numbers → Grows seat.numbers seat.front held.front → new ≡ added held (entry ∷ [])
    → own new.numbers new.front ≡ own held.numbers held.front ++ entry ∷ [] → HasCounted 1 seat new true
counts_on seat held new entry lock numbers grows is mine =
    let all : left_by new ≡ length (own held.numbers held.front) + 1 = ap length mine ∙ length-append (own held.numbers held.front) (entry ∷ []) in
    let same : length (own held.numbers held.front) ≡ length (own seat.numbers held.front) = ap (λ (ns : List ℕ). length (own ns held.front)) numbers in
    let old = ap length (own-grows seat.numbers seat.front held.front grows) in record {
      lock = ap (λ (s : SeatView). s.lock) is ∙ lock;
      numbers = ap (λ (s : SeatView). s.numbers) is ∙ numbers;
      more = λ _. omega arith;
    }

pub counts_none : (seat : SeatView) → HasCounted 0 seat seat true
counts_none seat = record { lock = refl; numbers = refl; more = λ _. omega arith }

pub counts_more : (k n : ℕ) (u v w : SeatView) (counted : Bool) → HasCounted k u v true → HasCounted n v w counted → HasCounted (k + n) u w counted
counts_more k n u v w counted a b = record { lock = b.lock ∙ a.lock; numbers = b.numbers ∙ a.numbers; more = λ yes. let x = a.more refl in let y = b.more yes in omega arith }
