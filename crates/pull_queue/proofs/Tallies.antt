-- How many of the pulls end when nothing can be delivered, and until when nothing is due to them, as pulls come and go.
use Rattle.std.proofs.Common.{◌≡◌, ℕ, ◌+◌, ◌-◌, ◌^◌, ◌<◌, ◌≤◌, Bool, true, false, cond, ◌||◌, List, [], ◌∷◌, ◌++◌, Option, Some, get_or, set, drop, length, refl, sym, ap, subst, ◌∙◌, arith}
use Rattle.std.specs.Prelude.{All, count_by, nat_lt, min}
use Rattle.std.specs.List.{list_any, position, remove}
use Rattle.std.proofs.lemmas.Bool.{ltb-true, lt-ltb}
use Rattle.std.proofs.lemmas.List.Elements.{All-cons, All-head, All-set, All-tail}
use Rattle.std.proofs.lemmas.List.Sums.{count_by-le-length, sum_by-cons, sum_by-set, sum_by_push}
use Rattle.js_model.specs.declared.consumer.Pull.{Pull}
use Rattle.js_model.specs.Deliver.{served, without_first}
use Rattle.pull_queue.specs.Kept.{IsKeptQueue}
use Rattle.pull_queue.specs.Quiet.{is_due, is_reached}
use Rattle.pull_queue.proofs.Places.{some_any, some_goes}
use Rattle.pull_queue.proofs.Quieter.{neither, quiet_more}

abbrev ends : Pull → Bool
ends p = p.no_wait

abbrev weight : Pull → ℕ
weight p = cond p.no_wait 1 0

abbrev tally : List Pull → ℕ
tally ps = count_by ends ps

none_more : (n : ℕ) → 0 + n ≡ n
none_more n = omega arith

pub counts_some : (ps : List Pull) → nat_lt 0 (tally ps) ≡ list_any ends ps
counts_some [] = refl
counts_some (p ∷ ps) = ap (nat_lt 0) (sum_by-cons weight p ps) ∙ go p.no_wait (counts_some ps)
  where
    go : (b : Bool) → nat_lt 0 (tally ps) ≡ list_any ends ps → nat_lt 0 (cond b 1 0 + tally ps) ≡ (b || list_any ends ps)
    go true e = lt-ltb 0 (1 + tally ps) (omega arith)
    go false e = ap (nat_lt 0) (none_more (tally ps)) ∙ e

-- the first of them goes
tally_without : (ps : List Pull) → list_any ends ps ≡ true → tally (without_first ends ps) ≡ tally ps - 1
tally_without [] h = cc
tally_without (p ∷ ps) h = go p.no_wait refl h (tally_without ps)
  where
    all : tally (p ∷ ps) ≡ weight p + tally ps
    all = sum_by-cons weight p ps

    go : (b : Bool) → p.no_wait ≡ b → (b || list_any ends ps) ≡ true → (list_any ends ps ≡ true → tally (without_first ends ps) ≡ tally ps - 1)
        → tally (cond b ps (p ∷ without_first ends ps)) ≡ tally (p ∷ ps) - 1
    go true e k rest = let w : weight p ≡ 1 = ap (λ b. cond b 1 0) e in omega (arith, all)
    go false e k rest =
        let w : weight p ≡ 0 = ap (λ b. cond b 1 0) e in
        let left : tally (cond false ps (p ∷ without_first ends ps)) ≡ weight p + tally (without_first ends ps) = sum_by-cons weight p (without_first ends ps) in
        let fewer : tally (without_first ends ps) ≡ tally ps - 1 = rest k in
        let some : 0 < tally ps = ltb-true 0 (tally ps) (counts_some ps ∙ k) in
        omega (arith, all)

all_without : (P : Pull → Type 0) (ps : List Pull) → All P ps → All P (without_first ends ps)
all_without P [] h = h
all_without P (p ∷ ps) h = go p.no_wait (all_without P ps (All-tail P p ps h))
  where
    go : (b : Bool) → All P (without_first ends ps) → All P (cond b ps (p ∷ without_first ends ps))
    go true k = All-tail P p ps h
    go false k = All-cons P p (without_first ends ps) (All-head P p ps h) k

-- ---- what is kept beside the pulls

pub kept_without : (next : Option ℕ) (n : ℕ) (ps left : List Pull) (place : ℕ) → IsKeptQueue next n ps → Some place ≡ position ends ps → left ≡ remove ps place → IsKeptQueue next (n - 1) left
kept_without next n ps left place h found is = subst (IsKeptQueue next (n - 1)) (sym (is ∙ some_goes ends ps place found)) (record {
  quiet = record { none_due = λ now not_yet. all_without (λ p. is_due now p ≡ false) ps (h.quiet.none_due now not_yet) };
  counted = ap (λ k. k - 1) h.counted ∙ sym (tally_without ps (some_any ends ps place found));
})

pub kept_rest : (next : Option ℕ) (n : ℕ) (ps left : List Pull) (p : Pull) (own : ℕ) → IsKeptQueue next n ps → 0 < length ps → p ≡ get_or ps 0 p → own ≡ weight p → left ≡ drop 1 ps → IsKeptQueue next (n - own) left
kept_rest next n [] left p own h some first is rest = absurd (omega arith)
kept_rest next n (q ∷ ps) left p own h some first is rest = subst (IsKeptQueue next (n - own)) (sym rest) (record {
  quiet = record { none_due = λ now not_yet. All-tail (λ x. is_due now x ≡ false) q ps (h.quiet.none_due now not_yet) };
  counted =
      let all : n ≡ weight q + tally ps = h.counted ∙ sum_by-cons weight q ps in
      let one : own ≡ weight q = is ∙ ap weight first in
      omega arith;
})

-- the first one is served
pub kept_served : (old one next : Option ℕ) (n : ℕ) (ps : List Pull) (p new : Pull) (now size : ℕ) → IsKeptQueue old n ps → 0 < length ps → p ≡ get_or ps 0 p → new ≡ served now size p → ((t : ℕ) → is_reached t one ≡ is_due t new)
    → ((t : ℕ) → is_reached t next ≡ (is_reached t old || is_reached t one)) → IsKeptQueue next n (set ps 0 new)
kept_served old one next n ps p new now size h some first is due earlier = record {
  quiet = record { none_due = λ t not_yet. none t (neither (is_reached t old) (is_reached t one) (sym (earlier t) ∙ not_yet)) };
  counted =
      let one : weight (get_or ps 0 p) ≡ weight p = ap weight (sym first) in
      let two : weight new ≡ weight p = ap weight is in
      let all : tally (set ps 0 new) + weight (get_or ps 0 p) ≡ tally ps + weight new = sum_by-set weight ps 0 new p some in
      let old_is : n ≡ tally ps = h.counted in
      omega arith;
}
  where
    none : (t : ℕ) → (is_reached t old ≡ false) × (is_reached t one ≡ false) → All (λ x. is_due t x ≡ false) (set ps 0 new)
    none t parts = All-set (λ x. is_due t x ≡ false) ps 0 new (sym (due t) ∙ parts.1) (h.quiet.none_due t parts.0)

-- one more waits
pub kept_more : (old one next : Option ℕ) (n own : ℕ) (ps : List Pull) (p : Pull) → IsKeptQueue old n ps → length ps < 2 ^ 62 → own ≡ weight p → ((now : ℕ) → is_reached now one ≡ is_due now p)
    → ((now : ℕ) → is_reached now next ≡ (is_reached now old || is_reached now one)) → IsKeptQueue next (min (n + own) (2 ^ 64 - 1)) (ps ++ p ∷ [])
kept_more old one next n own ps p h few is due earlier = record {
  quiet = quiet_more old one next ps p h.quiet due earlier;
  counted =
      let most : tally ps ≤ length ps = count_by-le-length ends ps in
      let sum : tally (ps ++ p ∷ []) ≡ tally ps + weight p = sum_by_push weight ps p in
      let old_is : n ≡ tally ps = h.counted in
      let small : weight p ≤ 1 = go p.no_wait in
      omega arith;
}
  where
    go : (b : Bool) → cond b 1 0 ≤ 1
    go true = omega arith
    go false = omega arith
