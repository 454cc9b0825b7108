-- What an acknowledgement does to its consumer, by JetStream's acknowledgement kinds and ack policies.
use Rattle.std.specs.Prelude.{ℕ, nat_le, Bool, ◌||◌, not, ◌==◌, map, filter, if◌then◌else◌}
use Rattle.js_base.specs.Bytes.{has}
use Rattle.js_base.specs.Moments.{plus}
use Rattle.js_model.specs.declared.consumer_config.AckPolicy.{AckPolicy}
use Rattle.js_model.specs.declared.consumer_config.AckPolicy.TheVariants.{None as NoAck, All as AckAll, Explicit}
use Rattle.js_model.specs.declared.ack.AckKind.{AckKind}
use Rattle.js_model.specs.declared.ack.AckKind.TheVariants.{Ack as Acknowledge, Nak, Wpi, Next, Term}
use Rattle.js_model.specs.declared.consumer.Pending.{Pending}
use Rattle.js_model.specs.declared.consumer.Consumer.{Consumer}
use Rattle.js_model.specs.Streams.{is_unacknowledged}

-- an ACK of the sequence n ends the entry m
abbrev pub ends : AckPolicy → ℕ → ℕ → Bool
ends NoAck n m = m == n
ends AckAll n m = nat_le m n
ends Explicit n m = m == n

-- the consumer without the entries that ended
abbrev pub without : (ℕ → Bool) → Consumer → Consumer
without ended c = record c {
  pending = filter (λ p. not (ended p.seq)) c.pending;
  given_up = filter (λ n. not (ended n)) c.given_up;
}

-- the entry of this sequence, due at another moment
abbrev pub moved : ℕ → ℕ → Pending → Pending
moved n due p = if p.seq == n then record p { due = due } else p

-- the consumer with another due time of a pending entry
abbrev pub with_due : ℕ → ℕ → Consumer → Consumer
with_due n due c = record c { pending = map (moved n due) c.pending }

-- the sequence was not delivered to the consumer yet, or its deliveries are not acknowledged
abbrev pub is_no_delivery : Consumer → ℕ → Bool
is_no_delivery c n = n == 0 || (has c.picks n || (nat_le c.cursor n || is_unacknowledged c))

-- the consumer after the acknowledgement of a sequence
abbrev pub acknowledged : ℕ → ℕ → AckKind → Consumer → Consumer
acknowledged now n Acknowledge c = without (ends c.config.ack_policy n) c
acknowledged now n (Nak delay) c = with_due n (plus now delay) c
acknowledged now n Wpi c = with_due n (plus now c.config.ack_wait) c
acknowledged now n (Next ask) c = without (ends c.config.ack_policy n) c
acknowledged now n Term c = without (λ m. m == n) c
