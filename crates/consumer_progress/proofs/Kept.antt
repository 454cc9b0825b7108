-- A progress stays one where sequences leave it or are due at another moment, and as it starts.
use Rattle.std.proofs.Common.{◌≡◌, ℕ, ◌+◌, ◌<◌, ◌≤◌, ◌==◌, ◌^◌, Bool, true, false, cond, not, List, [], ◌∷◌, length, map, refl, sym, subst, arith}
use Rattle.std.specs.Prelude.{filter, All}
use Rattle.std.proofs.lemmas.List.Elements.{All-filter, All-map, All-nil, All-weaker}
use Rattle.js_model.specs.declared.consumer.Pending.{Pending}
use Rattle.js_model.specs.Acknowledge.{moved}
use Rattle.js_model.specs.Lists.{Apart, Between, IsPart}
use Rattle.js_model.proofs.Lacking.{apart-parts}
use Rattle.js_model.proofs.Parts.{all_part, filter_part, part_between, part_map, part-length}
use Rattle.consumer_progress.specs.Progresses.{seqs_of, IsProgress, Progress}
use Rattle.consumer_progress.specs.Ending.{ended, with_due, without}
use Rattle.consumer_progress.proofs.Seqs.{seqs_moved}

-- fewer picks, and fewer deliveries
parts_progress : (p : Progress) (picks : List ℕ) (pending : List Pending) (given_up : List ℕ) → IsPart picks p.picks → IsPart pending p.pending → IsPart given_up p.given_up → All (λ e. e.count ≤ p.dseq) pending → IsProgress p
    → IsProgress (record p { picks = picks; pending = pending; given_up = given_up })
parts_progress p picks pending given_up a b c counts k = let seqs : IsPart (seqs_of pending) (seqs_of p.pending) = part_map (λ e. e.seq) b in record {
  picks = part_between (λ n. n) 0 p.cursor a k.picks;
  pending = part_between (λ e. e.seq) 0 p.cursor b k.pending;
  given_up = part_between (λ n. n) 0 p.cursor c k.given_up;
  picks_pending = apart-parts a seqs k.picks_pending;
  picks_given_up = apart-parts a c k.picks_given_up;
  pending_given_up = apart-parts seqs c k.pending_given_up;
  counts = counts;
  few_picks = let l : length picks ≤ length p.picks = part-length a in omega (arith, l, k.few_picks);
  few_delivered = let l : length pending ≤ length p.pending = part-length b in let m : length given_up ≤ length p.given_up = part-length c in omega (arith, l, m, k.few_delivered);
}

pub ended_progress : (t : ℕ → Bool) (p : Progress) → IsProgress p → IsProgress (ended t p)
ended_progress t p k =
    parts_progress p p.picks (filter (λ e. not (t e.seq)) p.pending) (filter (λ n. not (t n)) p.given_up) (all_part p.picks) (filter_part _ p.pending) (filter_part _ p.given_up)
    (All-filter _ (λ e. e.count ≤ p.dseq) p.pending k.counts) k

pub without_progress : (n : ℕ) (p : Progress) → IsProgress p → IsProgress (without n p)
without_progress n p k =
    parts_progress p (filter (λ m. not (m == n)) p.picks) (filter (λ e. not (e.seq == n)) p.pending) (filter (λ m. not (m == n)) p.given_up) (filter_part _ p.picks) (filter_part _ p.pending) (filter_part _ p.given_up)
    (All-filter _ (λ e. e.count ≤ p.dseq) p.pending k.counts) k

-- one fewer is given up
pub fewer_progress : (p : Progress) (ns : List ℕ) → IsPart ns p.given_up → IsProgress p → IsProgress (record p { given_up = ns })
fewer_progress p ns h k = parts_progress p p.picks p.pending ns (all_part p.picks) (all_part p.pending) h k.counts k

between_moved : (n due low high : ℕ) (ps : List Pending) → Between (λ e. e.seq) low high ps → Between (λ e. e.seq) low high (map (moved n due) ps)
between_moved n due low high [] h = h
between_moved n due low high (p ∷ ps) h = go (p.seq == n) (between_moved n due (p.seq + 1) high ps h.1)
  where
    go : (b : Bool) → Between (λ e. e.seq) (p.seq + 1) high (map (moved n due) ps) → Between (λ e. e.seq) low high (cond b (record p { due = due }) p ∷ map (moved n due) ps)
    go true r = (h.0, r)
    go false r = (h.0, r)

moved_count : (n due : ℕ) (p : Pending) → (moved n due p).count ≡ p.count
moved_count n due p = go (p.seq == n)
  where
    go : (b : Bool) → (cond b (record p { due = due }) p).count ≡ p.count
    go true = refl
    go false = refl

moved_length : (n due : ℕ) (ps : List Pending) → length (map (moved n due) ps) ≡ length ps
moved_length n due [] = refl
moved_length n due (p ∷ ps) = omega (arith, moved_length n due ps)

pub due_progress : (n due : ℕ) (p : Progress) → IsProgress p → IsProgress (with_due n due p)
due_progress n due p k = record {
  picks = k.picks;
  pending = between_moved n due 0 p.cursor p.pending k.pending;
  given_up = k.given_up;
  picks_pending = subst (λ (ns : List ℕ). Apart p.picks ns) (sym (seqs_moved n due p.pending)) k.picks_pending;
  picks_given_up = k.picks_given_up;
  pending_given_up = subst (λ (ns : List ℕ). Apart ns p.given_up) (sym (seqs_moved n due p.pending)) k.pending_given_up;
  counts =
      All-map (λ e. e.count ≤ p.dseq) (moved n due) p.pending
      (All-weaker (λ e. e.count ≤ p.dseq) (λ e. (moved n due e).count ≤ p.dseq) (λ e h. let same : (moved n due e).count ≡ e.count = moved_count n due e in omega (arith, h, same)) p.pending k.counts);
  few_picks = k.few_picks;
  few_delivered = omega (arith, moved_length n due p.pending, k.few_delivered);
}

no_sequence : (ns : List ℕ) → Apart ns []
no_sequence ns = record { apart = λ n e. refl }

pub start_progress : (cursor : ℕ) (picks : List ℕ) → Between (λ n. n) 0 cursor picks → length picks < 2 ^ 32 → IsProgress (record { picks = picks; cursor = cursor; dseq = 0; pending = []; given_up = [] })
start_progress cursor picks h few = record {
  picks = h;
  pending = omega arith;
  given_up = omega arith;
  picks_pending = no_sequence picks;
  picks_given_up = no_sequence picks;
  pending_given_up = no_sequence [];
  counts = All-nil (λ e. e.count ≤ 0);
  few_picks = few;
  few_delivered = omega arith;
}
