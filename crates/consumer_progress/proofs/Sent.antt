-- A progress stays one as a sequence is sent.
use Rattle.std.proofs.Common.{◌≡◌, ℕ, ◌+◌, ◌<◌, ◌≤◌, ◌==◌, ◌^◌, Bool, true, false, cond, not, List, [], ◌∷◌, length, max, refl, sym, ◌∙◌, subst, arith, ◌⊎◌, inl, inr}
use Rattle.std.specs.Prelude.{filter, find, nat_lt, All, Option, Some, None}
use Rattle.std.proofs.lemmas.Bool.{eqb-false, eqb-true, false_from_ne_true, ltb-false, ltb-true, not-true, true≢false}
use Rattle.std.proofs.lemmas.List.Elements.{All-cons, All-head, All-tail, All-weaker}
use Rattle.js_base.specs.Bytes.{has}
use Rattle.js_model.specs.declared.consumer.Pending.{Pending}
use Rattle.js_model.specs.Deliver.{with_pending}
use Rattle.js_model.specs.Lists.{Apart, Between}
use Rattle.js_model.proofs.Lacking.{apart-parts}
use Rattle.js_model.proofs.Parts.{all_part, between_higher, filter_part, part_between, part-length}
use Rattle.js_model.proofs.Members.{in_any, in_filter}
use Rattle.consumer_progress.specs.Progresses.{seqs_of, IsProgress, Progress}
use Rattle.consumer_progress.specs.Sending.{after_sent, count_in, pending_after}
use Rattle.consumer_progress.proofs.Seqs.{has_with}

between_with : (low high : ℕ) (e : Pending) (ps : List Pending) → Between (λ p. p.seq) low high ps → low ≤ e.seq → e.seq < high → Between (λ p. p.seq) low high (with_pending ps e)
between_with low high e [] h l g = (l, omega (arith, g))
between_with low high e (p ∷ ps) h l g = go (nat_lt p.seq e.seq) refl (p.seq == e.seq) refl (between_with (p.seq + 1) high e ps h.1)
  where
    go : (a : Bool) → nat_lt p.seq e.seq ≡ a → (b : Bool) → (p.seq == e.seq) ≡ b → (p.seq + 1 ≤ e.seq → e.seq < high → Between (λ p. p.seq) (p.seq + 1) high (with_pending ps e))
        → Between (λ p. p.seq) low high (cond a (p ∷ with_pending ps e) (cond b (e ∷ ps) (e ∷ p ∷ ps)))
    go true q b w f = (h.0, f (let r : p.seq < e.seq = ltb-true p.seq e.seq q in omega (arith, r)) g)
    go false q true w f = (l, subst (λ (n : ℕ). Between (λ p. p.seq) (n + 1) high ps) (eqb-true p.seq e.seq w) h.1)
    go false q false w f = (l, (let r : e.seq ≤ p.seq = ltb-false p.seq e.seq q in let d : p.seq ≡ e.seq → ⊥ = eqb-false p.seq e.seq w in omega (arith, d, r), h.1))

all_with : (P : Pending → Type 0) (e : Pending) (ps : List Pending) → P e → All P ps → All P (with_pending ps e)
all_with P e [] h k = All-cons P e [] h k
all_with P e (p ∷ ps) h k = go (nat_lt p.seq e.seq) (p.seq == e.seq) (all_with P e ps h (All-tail P p ps k))
  where
    go : (a b : Bool) → All P (with_pending ps e) → All P (cond a (p ∷ with_pending ps e) (cond b (e ∷ ps) (e ∷ p ∷ ps)))
    go true b r = All-cons P p (with_pending ps e) (All-head P p ps k) r
    go false true r = All-cons P e ps h (All-tail P p ps k)
    go false false r = All-cons P e (p ∷ ps) h k

-- a sequence was delivered no more often than each entry may have been
pub count_most : (n most : ℕ) (ps : List Pending) → All (λ e. e.count ≤ most) ps → count_in ps n ≤ most
count_most n most [] h = omega arith
count_most n most (p ∷ ps) h = go (p.seq == n) (count_most n most ps (All-tail (λ e. e.count ≤ most) p ps h))
  where
    count_or_zero : Option Pending → ℕ
    count_or_zero None = 0
    count_or_zero (Some p) = p.count

    go : (b : Bool) → count_in ps n ≤ most → count_or_zero (cond b (Some p) (find (λ p. p.seq == n) ps)) ≤ most
    go true k = All-head (λ e. e.count ≤ most) p ps h
    go false k = k

has_left : (t : ℕ → Bool) (ns : List ℕ) (n : ℕ) → has (filter t ns) n ≡ true → t n ≡ true
has_left t ns n h =
    let some = in_any (λ m. m == n) (filter t ns) h in
    subst (λ (m : ℕ). t m ≡ true) (eqb-true some.0 n some.2) (in_filter t some.0 ns some.1).1

-- what holds of the entries after a delivery
record ArePending (seq : ℕ) (p : Progress) (ps : List Pending) : Type 0 where
  ascend : Between (λ e. e.seq) 0 (max p.cursor (seq + 1)) ps
  picks : Apart (filter (λ n. not (n == seq)) p.picks) (seqs_of ps)
  given_up : Apart (seqs_of ps) p.given_up
  counts : All (λ e. e.count ≤ p.dseq + 1) ps

same_pending : (seq : ℕ) (p : Progress) → IsProgress p → ArePending seq p p.pending
same_pending seq p k = record {
  ascend = between_higher (λ e. e.seq) 0 p.cursor (max p.cursor (seq + 1)) p.pending (omega arith) k.pending;
  picks = apart-parts (filter_part _ p.picks) (all_part (seqs_of p.pending)) k.picks_pending;
  given_up = k.pending_given_up;
  counts = All-weaker (λ e. e.count ≤ p.dseq) (λ e. e.count ≤ p.dseq + 1) (λ e h. omega (arith, h)) p.pending k.counts;
}

one_pending : (seq due : ℕ) (p : Progress) → has p.given_up seq ≡ false → IsProgress p → ArePending seq p (with_pending p.pending (record { seq = seq; count = count_in p.pending seq + 1; due = due }))
one_pending seq due p fresh k = record {
  ascend = between_with 0 (max p.cursor (seq + 1)) new p.pending old.ascend (omega arith) (omega arith);
  picks = record { apart = λ n e. false_from_ne_true _ (λ w. apart n e (has_with new p.pending n w)) };
  given_up = record { apart = λ n e. not_given_up n (has_with new p.pending n e) };
  counts = all_with (λ e. e.count ≤ p.dseq + 1) new p.pending (omega (arith, count_most seq p.dseq p.pending k.counts)) old.counts;
}
  where
    new : Pending
    new = record { seq = seq; count = count_in p.pending seq + 1; due = due }

    old : ArePending seq p p.pending
    old = same_pending seq p k

    apart : (n : ℕ) → has (filter (λ n. not (n == seq)) p.picks) n ≡ true → (has (seqs_of p.pending) n ≡ true) ⊎ (seq ≡ n) → ⊥
    apart n e (inl w) = true≢false (sym w ∙ old.picks.apart n e)
    apart n e (inr w) = eqb-false n seq (not-true (n == seq) (has_left (λ n. not (n == seq)) p.picks n e)) (sym w)

    not_given_up : (n : ℕ) → (has (seqs_of p.pending) n ≡ true) ⊎ (seq ≡ n) → has p.given_up n ≡ false
    not_given_up n (inl e) = k.pending_given_up.apart n e
    not_given_up n (inr e) = subst (λ (n : ℕ). has p.given_up n ≡ false) e fresh

pending_sent : (seq : ℕ) (due : Option ℕ) (p : Progress) → has p.given_up seq ≡ false → IsProgress p → ArePending seq p (pending_after seq due p.pending)
pending_sent seq None p fresh k = same_pending seq p k
pending_sent seq (Some due) p fresh k = one_pending seq due p fresh k

pub sent_progress : (seq : ℕ) (due : Option ℕ) (p : Progress) → has p.given_up seq ≡ false → length (pending_after seq due p.pending) + length p.given_up < 2 ^ 32 → IsProgress p → IsProgress (after_sent seq due p)
sent_progress seq due p fresh few k = let new = pending_sent seq due p fresh k in record {
  picks = between_higher (λ n. n) 0 p.cursor (max p.cursor (seq + 1)) (filter (λ n. not (n == seq)) p.picks) (omega arith) (part_between (λ n. n) 0 p.cursor (filter_part _ p.picks) k.picks);
  pending = new.ascend;
  given_up = between_higher (λ n. n) 0 p.cursor (max p.cursor (seq + 1)) p.given_up (omega arith) k.given_up;
  picks_pending = new.picks;
  picks_given_up = apart-parts (filter_part _ p.picks) (all_part p.given_up) k.picks_given_up;
  pending_given_up = new.given_up;
  counts = new.counts;
  few_picks = let l : length (filter (λ n. not (n == seq)) p.picks) ≤ length p.picks = part-length (filter_part (λ n. not (n == seq)) p.picks) in omega (arith, l, k.few_picks);
  few_delivered = few;
}
