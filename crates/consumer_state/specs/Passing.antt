-- What passing time does to a consumer, in two steps, by JetStream's pull expiry, idle heartbeat and max_deliver: first all but that too many may be given
-- up, then the least of those go, one by one. That the greatest 65,536 stay is this server's own.
use Rattle.std.specs.Prelude.{◌≡◌, ℕ, nat_lt, Bool, if◌then◌else◌, Option, None, filter, fold, length, map}
use Rattle.js_base.specs.Bytes.{last_of}
use Rattle.js_model.specs.declared.consumer.Consumer.{Consumer}
use Rattle.js_model.specs.Advance.{is_spent, placed, consumer_at}
use Rattle.consumer_progress.specs.GivingUp.{rest_of}
use Rattle.consumer_progress.specs.Progresses.{first_of}

-- the consumer at a moment, with all sequences that are given up by then
abbrev pub passed : ℕ → Consumer → Consumer
passed now c = record (consumer_at now c) { given_up = fold placed c.given_up (map (λ p. p.seq) (filter (is_spent now c) c.pending)) }

abbrev pub has_overflow : Consumer → Bool
has_overflow c = nat_lt 65536 (length c.given_up)

-- the least sequence that is given up, if there are too many
abbrev pub overflow_of : Consumer → Option ℕ
overflow_of c = if has_overflow c then first_of c.given_up else None

-- the consumer without it
abbrev pub without_overflow : Consumer → Consumer
without_overflow c = record c { given_up = if has_overflow c then rest_of c.given_up else c.given_up }

-- the consumer with the greatest 65,536
abbrev pub within_overflow : Consumer → Consumer
within_overflow c = record c { given_up = last_of 65536 c.given_up }

-- a consumer is at a moment once nothing overflows any more
abbrev pub LawPassed : Type 0
LawPassed = (now : ℕ) (c : Consumer) → consumer_at now c ≡ within_overflow (passed now c)

-- each step leaves the same to be kept, and the last one leaves just that
abbrev pub LawOverflow : Type 0
LawOverflow = (c : Consumer) → (within_overflow (without_overflow c) ≡ within_overflow c) × (overflow_of c ≡ None → within_overflow c ≡ c)
