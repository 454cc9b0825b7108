-- How sequences leave a consumer's progress, by JetStream's acknowledgements and the removal of messages.
use Rattle.std.specs.Prelude.{◌≡◌, ℕ, ◌≤◌, nat_le, min, Bool, true, ◌==◌, ◌&&◌, ◌||◌, not, List, filter, map, Option, Some, None}
use Rattle.std.specs.List.{list_any}
use Rattle.js_base.specs.Bytes.{has}
use Rattle.js_model.specs.declared.consumer.Pending.{Pending}
use Rattle.js_model.specs.Acknowledge.{moved}
use Rattle.consumer_progress.specs.Progresses.{Progress, first_of, seqs_of}

-- the progress without the deliveries that ended
abbrev pub ended : (ℕ → Bool) → Progress → Progress
ended ends p = record p {
  pending = filter (λ e. not (ends e.seq)) p.pending;
  given_up = filter (λ n. not (ends n)) p.given_up;
}

-- the sequence was delivered and has not ended
abbrev pub is_delivered : Progress → ℕ → Bool
is_delivered p n = has (seqs_of p.pending) n || has p.given_up n

-- the lesser of two sequences, as far as they are there
abbrev pub lesser : Option ℕ → Option ℕ → Option ℕ
lesser None n = n
lesser (Some m) None = Some m
lesser (Some m) (Some n) = Some (min m n)

-- the least sequence that was delivered and has not ended
abbrev pub least_delivered : Progress → Option ℕ
least_delivered p = lesser (first_of (seqs_of p.pending)) (first_of p.given_up)

-- some delivery up to the sequence ended, or there is none
abbrev pub EndsOneUpTo : ℕ → Progress → Option ℕ → Progress → Type 0
EndsOneUpTo seq old None new = (ended (λ n. nat_le n seq) old ≡ old) × (new ≡ old)
EndsOneUpTo seq old (Some n) new = (n ≤ seq) × (is_delivered old n ≡ true) × (new ≡ ended (λ m. m == n) old)

-- the progress with another due moment of the delivery, if it waits
abbrev pub with_due : ℕ → ℕ → Progress → Progress
with_due seq due p = record p { pending = map (moved seq due) p.pending }

-- the delivery waits, and is due at another moment
abbrev pub changes_due : ℕ → ℕ → List Pending → Bool
changes_due seq due ps = list_any (λ e. (e.seq == seq) && not (e.due == due)) ps

-- the progress without the sequence
abbrev pub without : ℕ → Progress → Progress
without seq p = record p {
  picks = filter (λ n. not (n == seq)) p.picks;
  pending = filter (λ e. not (e.seq == seq)) p.pending;
  given_up = filter (λ n. not (n == seq)) p.given_up;
}
