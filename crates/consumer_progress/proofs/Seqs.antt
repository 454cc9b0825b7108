-- The sequences of a table: which are there, and what becomes of them.
use Rattle.std.proofs.Common.{◌≡◌, ℕ, ◌==◌, ◌||◌, Bool, true, false, cond, List, [], ◌∷◌, Option, Some, map, refl, ap, arith, ◌⊎◌, inl, inr}
use Rattle.std.specs.Prelude.{filter, find, is_some, nat_le, nat_lt, unwrap_or}
use Rattle.std.specs.List.{list_any}
use Rattle.std.specs.Option.{option_map}
use Rattle.std.proofs.lemmas.Bool.{eqb-true, or_cases, or_left, or_parts, or_right, true≢false}
use Rattle.std.proofs.lemmas.Bool.Decides.{nat_tests}
use Rattle.js_base.specs.Bytes.{has}
use Rattle.js_model.specs.declared.consumer.Pending.{Pending}
use Rattle.js_model.specs.Acknowledge.{moved}
use Rattle.js_model.specs.Advance.{placed}
use Rattle.js_model.specs.Counts.{least}
use Rattle.js_model.specs.Deliver.{with_pending}
use Rattle.consumer_progress.specs.Progresses.{first_of, seqs_of}
use Rattle.consumer_progress.specs.Ending.{lesser}

-- ---- which are there

abbrev numbers : Option Pending → Option (ℕ × ℕ)
numbers o = option_map (λ p. (p.count, p.due)) o

pub some_found : (n : ℕ) (ps : List Pending) → is_some (numbers (find (λ p. p.seq == n) ps)) ≡ has (seqs_of ps) n
some_found n [] = refl
some_found n (p ∷ ps) = go (p.seq == n) (some_found n ps)
  where
    go : (b : Bool) → is_some (numbers (find (λ p. p.seq == n) ps)) ≡ has (seqs_of ps) n → is_some (numbers (cond b (Some p) (find (λ p. p.seq == n) ps))) ≡ (b || has (seqs_of ps) n)
    go true h = refl
    go false h = h

pub any_seq : (n : ℕ) (ps : List Pending) → list_any (λ p. p.seq == n) ps ≡ has (seqs_of ps) n
any_seq n [] = refl
any_seq n (p ∷ ps) = ap (λ b. (p.seq == n) || b) (any_seq n ps)

from_zero : (n : ℕ) → nat_le 0 n ≡ true
from_zero n = grind (arith, nat_tests)

pub found_from : (seq : ℕ) (ps : List Pending) → option_map (λ p. p.seq) (find (λ p. nat_le seq p.seq) ps) ≡ find (nat_le seq) (seqs_of ps)
found_from seq [] = refl
found_from seq (p ∷ ps) = go (nat_le seq p.seq) (found_from seq ps)
  where
    go : (b : Bool) → option_map (λ p. p.seq) (find (λ p. nat_le seq p.seq) ps) ≡ find (nat_le seq) (seqs_of ps)
        → option_map (λ p. p.seq) (cond b (Some p) (find (λ p. nat_le seq p.seq) ps)) ≡ cond b (Some p.seq) (find (nat_le seq) (seqs_of ps))
    go true k = refl
    go false k = k

pub first_found : (ps : List Pending) → option_map (λ p. p.seq) (find (λ p. nat_le 0 p.seq) ps) ≡ first_of (seqs_of ps)
first_found [] = refl
first_found (p ∷ ps) = ap (λ b. option_map (λ (p : Pending). p.seq) (cond b (Some p) (find (λ p. nat_le 0 p.seq) ps))) (from_zero p.seq)

pub least_is : (ms ns : List ℕ) (none : ℕ) → unwrap_or (lesser (first_of ms) (first_of ns)) none ≡ least ms ns none
least_is [] [] none = refl
least_is (m ∷ ms) [] none = refl
least_is [] (n ∷ ns) none = refl
least_is (m ∷ ms) (n ∷ ns) none = refl

-- ---- what becomes of them

pub seqs_filter : (t : ℕ → Bool) (ps : List Pending) → seqs_of (filter (λ p. t p.seq) ps) ≡ filter t (seqs_of ps)
seqs_filter t [] = refl
seqs_filter t (p ∷ ps) = go (t p.seq) (seqs_filter t ps)
  where
    go : (b : Bool) → seqs_of (filter (λ p. t p.seq) ps) ≡ filter t (seqs_of ps) → seqs_of (cond b (p ∷ filter (λ p. t p.seq) ps) (filter (λ p. t p.seq) ps)) ≡ cond b (p.seq ∷ filter t (seqs_of ps)) (filter t (seqs_of ps))
    go true h = ap (λ ns. p.seq ∷ ns) h
    go false h = h

pub seqs_moved : (n due : ℕ) (ps : List Pending) → seqs_of (map (moved n due) ps) ≡ seqs_of ps
seqs_moved n due [] = refl
seqs_moved n due (p ∷ ps) = go (p.seq == n) (seqs_moved n due ps)
  where
    go : (b : Bool) → seqs_of (map (moved n due) ps) ≡ seqs_of ps → seqs_of (cond b (record p { due = due }) p ∷ map (moved n due) ps) ≡ seqs_of (p ∷ ps)
    go true h = ap (λ ns. p.seq ∷ ns) h
    go false h = ap (λ ns. p.seq ∷ ns) h

-- an entry of a sequence that is not there
pub seqs_placed : (ps : List Pending) (e : Pending) → has (seqs_of ps) e.seq ≡ false → seqs_of (with_pending ps e) ≡ placed (seqs_of ps) e.seq
seqs_placed [] e h = refl
seqs_placed (p ∷ ps) e h = go (nat_lt p.seq e.seq) (p.seq == e.seq) (or_parts (p.seq == e.seq) (has (seqs_of ps) e.seq) h).0 (seqs_placed ps e (or_parts (p.seq == e.seq) (has (seqs_of ps) e.seq) h).1)
  where
    go : (a b : Bool) → b ≡ false → seqs_of (with_pending ps e) ≡ placed (seqs_of ps) e.seq
        → seqs_of (cond a (p ∷ with_pending ps e) (cond b (e ∷ ps) (e ∷ p ∷ ps))) ≡ cond a (p.seq ∷ placed (seqs_of ps) e.seq) (e.seq ∷ p.seq ∷ seqs_of ps)
    go true b f k = ap (λ ns. p.seq ∷ ns) k
    go false true f k = absurd (true≢false f)
    go false false f k = refl

-- a sequence that was there, or the new one
pub has_with : (e : Pending) (ps : List Pending) (n : ℕ) → has (seqs_of (with_pending ps e)) n ≡ true → (has (seqs_of ps) n ≡ true) ⊎ (e.seq ≡ n)
has_with e [] n h = go (or_cases (e.seq == n) false h)
  where
    go : ((e.seq == n) ≡ true) ⊎ (false ≡ true) → (has [] n ≡ true) ⊎ (e.seq ≡ n)
    go (inl k) = inr (eqb-true e.seq n k)
    go (inr k) = inl k
has_with e (p ∷ ps) n h = go (nat_lt p.seq e.seq) (p.seq == e.seq) (has_with e ps n) h
  where
    later : (has (seqs_of ps) n ≡ true) ⊎ (e.seq ≡ n) → (has (seqs_of (p ∷ ps)) n ≡ true) ⊎ (e.seq ≡ n)
    later (inl k) = inl (or_right (p.seq == n) (has (seqs_of ps) n) k)
    later (inr k) = inr k

    at_new : (qs : List Pending) → ((e.seq == n) || has (seqs_of qs) n) ≡ true → (has (seqs_of qs) n ≡ true) ⊎ (e.seq ≡ n)
    at_new qs k = either (or_cases (e.seq == n) (has (seqs_of qs) n) k)
      where
        either : ((e.seq == n) ≡ true) ⊎ (has (seqs_of qs) n ≡ true) → (has (seqs_of qs) n ≡ true) ⊎ (e.seq ≡ n)
        either (inl w) = inr (eqb-true e.seq n w)
        either (inr w) = inl w

    go : (a b : Bool) → (has (seqs_of (with_pending ps e)) n ≡ true → (has (seqs_of ps) n ≡ true) ⊎ (e.seq ≡ n)) → has (seqs_of (cond a (p ∷ with_pending ps e) (cond b (e ∷ ps) (e ∷ p ∷ ps)))) n ≡ true
        → (has (seqs_of (p ∷ ps)) n ≡ true) ⊎ (e.seq ≡ n)
    go true b f k = either (or_cases (p.seq == n) (has (seqs_of (with_pending ps e)) n) k)
      where
        either : ((p.seq == n) ≡ true) ⊎ (has (seqs_of (with_pending ps e)) n ≡ true) → (has (seqs_of (p ∷ ps)) n ≡ true) ⊎ (e.seq ≡ n)
        either (inl w) = inl (or_left (p.seq == n) (has (seqs_of ps) n) w)
        either (inr w) = later (f w)
    go false true f k = later (at_new ps k)
    go false false f k = at_new (p ∷ ps) k
