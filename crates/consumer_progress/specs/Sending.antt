-- What a delivery changes of a consumer's progress, by JetStream's consumers: their sequences, ack_wait and redelivery.
use Rattle.std.specs.Prelude.{ℕ, ◌+◌, ◌==◌, max, not, List, filter, find, Option, Some, None}
use Rattle.js_model.specs.declared.consumer.Pending.{Pending}
use Rattle.js_model.specs.Deliver.{with_pending}
use Rattle.consumer_progress.specs.Progresses.{Progress}

-- how often a sequence was delivered, as far as it waits
abbrev pub count_in : List Pending → ℕ → ℕ
count_in ps n = count_or_zero (find (λ p. p.seq == n) ps)
  where
    count_or_zero : Option Pending → ℕ
    count_or_zero None = 0
    count_or_zero (Some p) = p.count

-- the entries after a delivery, which waits until a moment or not at all
abbrev pub pending_after : ℕ → Option ℕ → List Pending → List Pending
pending_after seq None ps = ps
pending_after seq (Some due) ps = with_pending ps (record { seq = seq; count = count_in ps seq + 1; due = due })

-- the progress after a delivery: the sequence is no pick any more and lies below the cursor
abbrev pub after_sent : ℕ → Option ℕ → Progress → Progress
after_sent seq due p = record {
  picks = filter (λ n. not (n == seq)) p.picks;
  cursor = max p.cursor (seq + 1);
  dseq = p.dseq + 1;
  pending = pending_after seq due p.pending;
  given_up = p.given_up;
}
