-- The first entry of a table whose sequences ascend is taken out.
use Rattle.std.proofs.Common.{◌≡◌, ℕ, ◌+◌, ◌<◌, ◌≤◌, ◌==◌, Bool, true, cond, not, List, [], ◌∷◌, Some, None, refl, sym, ap, ◌∙◌, arith}
use Rattle.std.specs.Prelude.{filter, find, nat_le}
use Rattle.std.proofs.lemmas.Bool.{eq-eqb, ne_eqb}
use Rattle.std.proofs.lemmas.Bool.Decides.{nat_tests}
use Rattle.js_model.specs.declared.consumer.Pending.{Pending}
use Rattle.js_model.specs.Lists.{Ascends, IsPart, none, keep, skip}
use Rattle.js_model.proofs.Parts.{filter_part, part_map}
use Rattle.consumer_progress.specs.Progresses.{seqs_of}

ascends_lower : (a b : ℕ) (ns : List ℕ) → a ≤ b → Ascends b ns → Ascends a ns
ascends_lower a b [] l h = tt
ascends_lower a b (n ∷ ns) l h = (let q : b ≤ n = h.0 in omega (arith, q, l), h.1)

part_ascends : (low : ℕ) {ms ns : List ℕ} → IsPart ms ns → Ascends low ns → Ascends low ms
part_ascends low none h = h
part_ascends low (keep {x = x} p) h = (h.0, part_ascends (x + 1) p h.1)
part_ascends low (skip {x = x} {xs = xs} p) h = part_ascends low p (ascends_lower low (x + 1) xs (let q : low ≤ x = h.0 in omega (arith, q)) h.1)

pub dropped_ascends : (t : Pending → Bool) (ps : List Pending) → Ascends 0 (seqs_of ps) → Ascends 0 (seqs_of (filter t ps))
dropped_ascends t ps h = part_ascends 0 (part_map (λ e. e.seq) (filter_part t ps)) h

-- nothing of an ascending list is taken out by a sequence below it
all_above : (n low : ℕ) (ps : List Pending) → Ascends low (seqs_of ps) → n < low → filter (λ e. not (e.seq == n)) ps ≡ ps
all_above n low [] h l = refl
all_above n low (p ∷ ps) h l =
    let q : low ≤ p.seq = h.0 in
    ap (λ b. cond (not b) (p ∷ filter (λ e. not (e.seq == n)) ps) (filter (λ e. not (e.seq == n)) ps)) (ne_eqb p.seq n (λ e. omega (arith, e, q, l)))
    ∙ ap (λ qs. p ∷ qs) (all_above n (p.seq + 1) ps h.1 (omega (arith, q, l)))

from_zero : (n : ℕ) → nat_le 0 n ≡ true
from_zero n = grind (arith, nat_tests)

first_is : (q p : Pending) (ps : List Pending) → find (λ e. nat_le 0 e.seq) (p ∷ ps) ≡ Some q → p ≡ q
first_is q p ps h = same (sym (ap (λ b. cond b (Some p) (find (λ e. nat_le 0 e.seq) ps)) (from_zero p.seq)) ∙ h)
  where
    same : Some p ≡ Some q → p ≡ q
    same e = cc

pub popped : (q : Pending) (ps : List Pending) → Ascends 0 (seqs_of ps) → find (λ e. nat_le 0 e.seq) ps ≡ Some q → ps ≡ q ∷ filter (λ e. not (e.seq == q.seq)) ps
popped q [] h f = absurd cc
popped q (p ∷ ps) h f =
    let same : p ≡ q = first_is q p ps f in
    let at : p.seq ≡ q.seq = ap (λ (x : Pending). x.seq) same in
    ap (λ x. x ∷ ps) same
    ∙ ap (λ qs. q ∷ qs)
    (sym
    (ap (λ b. cond (not b) (p ∷ filter (λ e. not (e.seq == q.seq)) ps) (filter (λ e. not (e.seq == q.seq)) ps)) (eq-eqb p.seq q.seq at)
    ∙ all_above q.seq (p.seq + 1) ps h.1 (omega (arith, at))))

pub none_popped : (ps : List Pending) → find (λ e. nat_le 0 e.seq) ps ≡ None → ps ≡ []
none_popped [] f = refl
none_popped (p ∷ ps) f = absurd (no (sym (ap (λ b. cond b (Some p) (find (λ e. nat_le 0 e.seq) ps)) (from_zero p.seq)) ∙ f))
  where
    no : Some p ≡ None → ⊥
    no e = absurd cc
