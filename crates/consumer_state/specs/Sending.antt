-- When a message can be sent to a consumer, this server's own, and until when its delivery waits, by JetStream's ack_wait.
use Rattle.std.specs.Prelude.{◌≡◌, ℕ, ◌+◌, ◌<◌, ◌^◌, true, false, if◌then◌else◌, Option, Some, None}
use Rattle.js_base.specs.Bytes.{has}
use Rattle.js_base.specs.Moments.{plus}
use Rattle.js_model.specs.declared.consumer.Consumer.{Consumer}
use Rattle.js_model.specs.Streams.{below_limit, is_push, is_unacknowledged}
use Rattle.js_model.specs.Deliver.{count_of, front_allows}

-- the message of a sequence, with so many bytes to be sent, is not given up and was sent less often than it may be, the numbers are in their ranges, and a
-- pull consumer's first pull takes the message
pub record IsSendable (c : Consumer) (seq bytes : ℕ) : Type 0 where
  pub not_given_up : has c.given_up seq ≡ false
  pub again : below_limit (count_of c seq) c.config.max_deliver ≡ true
  pub bound : seq < 2 ^ 62
  pub dseq : c.dseq + 1 < 2 ^ 62
  pub asked : is_push c ≡ false → front_allows c.waiting bytes ≡ true

abbrev pub due_after : ℕ → Consumer → Option ℕ
due_after now c = if is_unacknowledged c then None else Some (plus now c.config.ack_wait)
