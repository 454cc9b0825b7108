-- A consumer's progress stays one as picks leave it, and as a message is delivered.
use Rattle.std.proofs.Common.{ℕ, ◌≤◌, List, length, not, arith}
use Rattle.std.specs.Prelude.{filter}
use Rattle.std.proofs.lemmas.List.{length-map}
use Rattle.js_model.specs.declared.consumer.Consumer.{Consumer}
use Rattle.js_model.specs.Acknowledge.{moved, with_due, without}
use Rattle.js_model.specs.Lists.{IsPart}
use Rattle.js_model.proofs.Lacking.{apart-parts}
use Rattle.js_model.proofs.Parts.{all_part, filter_part, part_between, part-length}
use Rattle.consumer_progress.specs.Progresses.{progress_of, seqs_of, IsProgress, Progress}
use Rattle.consumer_progress.specs.Ending.{ended}
use Rattle.consumer_progress.proofs.Kept.{due_progress, ended_progress}
use Rattle.effects.specs.Folding.{holding}
use Rattle.effects.specs.Ranges.{is_within}
use Rattle.replayed_consumer.specs.Replayed.{IsReplayable}

picks_progress : (p : Progress) (picks : List ℕ) → IsPart picks p.picks → IsProgress p → IsProgress (record p { picks = picks })
picks_progress p picks h k = record {
  picks = part_between (λ n. n) 0 p.cursor h k.picks;
  pending = k.pending;
  given_up = k.given_up;
  picks_pending = apart-parts h (all_part (seqs_of p.pending)) k.picks_pending;
  picks_given_up = apart-parts h (all_part p.given_up) k.picks_given_up;
  pending_given_up = k.pending_given_up;
  counts = k.counts;
  few_picks = let l : length picks ≤ length p.picks = part-length h in omega (arith, l, k.few_picks);
  few_delivered = k.few_delivered;
}

pub ended_replayable : (low high : ℕ) (c : Consumer) → IsReplayable c → IsReplayable (without (is_within low high) c)
ended_replayable low high c k = record {
  progress = ended_progress (is_within low high) (progress_of c) k.progress;
  few =
      let l : length (filter (λ p. not (is_within low high p.seq)) c.pending) ≤ length c.pending = part-length (filter_part (λ p. not (is_within low high p.seq)) c.pending) in
      let m : length (filter (λ n. not (is_within low high n)) c.given_up) ≤ length c.given_up = part-length (filter_part (λ n. not (is_within low high n)) c.given_up) in
      omega (arith, l, m, k.few);
  waiting = k.waiting;
  mark = k.mark;
}

pub holding_replayable : (low high : ℕ) (c : Consumer) → IsReplayable c → IsReplayable (holding (λ n. not (is_within low high n)) c)
holding_replayable low high c k = let e = ended_replayable low high c k in record {
  progress = picks_progress (ended (is_within low high) (progress_of c)) (filter (λ n. not (is_within low high n)) c.picks) (filter_part (λ n. not (is_within low high n)) c.picks) e.progress;
  few = e.few;
  waiting = k.waiting;
  mark = k.mark;
}

pub due_replayable : (seq due : ℕ) (c : Consumer) → IsReplayable c → IsReplayable (with_due seq due c)
due_replayable seq due c k = record { progress = due_progress seq due (progress_of c) k.progress; few = omega (arith, length-map c.pending (moved seq due), k.few); waiting = k.waiting; mark = k.mark }
