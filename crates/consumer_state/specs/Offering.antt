-- A stream and one of its consumers as it stands at the stream's moment, this server's own, and which message may be sent next.
use Rattle.std.specs.Prelude.{◌≡◌, ℕ, Bool, true, not, if◌then◌else◌, List, [], Option, Some, None, Contains}
use Rattle.js_base.specs.Bytes.{has, is_empty}
use Rattle.js_model.specs.declared.stream.Message.{Message}
use Rattle.js_model.specs.declared.stream.Stream.{Stream}
use Rattle.js_model.specs.declared.consumer.Consumer.{Consumer}
use Rattle.js_model.specs.Streams.{is_push, seqs}
use Rattle.js_model.specs.Counts.{pending_count}
use Rattle.js_model.specs.Deliver.{candidates, or_next}
use Rattle.stream_view.specs.Order.{IsInOrder}
use Rattle.consumer_need.specs.Stored.{HoldsStored}
use Rattle.consumer_progress.specs.GivingUp.{IsUnspent}

-- the stream's messages are in order, what the consumer holds is stored, and time has passed for it up to the stream's moment; so many messages are still to
-- be delivered to it
pub record IsCurrent (a : Stream) (c : Consumer) (undelivered : ℕ) : Type 0 where
  pub order : IsInOrder a
  pub stored : HoldsStored a c
  pub unspent : IsUnspent a.moment c.config.max_deliver c.pending
  pub count : undelivered ≡ pending_count a c

-- the sequence of one of the messages, or there is none
abbrev pub IsAmong : List Message → Option ℕ → Type 0
IsAmong ms None = ms ≡ []
IsAmong ms (Some seq) = has (seqs ms) seq ≡ true

-- the sequence of some message that may be sent, or there is none
abbrev pub IsOffer : Stream → Consumer → Option ℕ → Type 0
IsOffer a c o = IsAmong (candidates a c) o

-- the messages that may be sent if no delivery is due again
abbrev pub onward : Stream → Consumer → List Message
onward a c = or_next [] a c

-- some message that may be sent, or there is none
abbrev pub IsNext : Stream → Consumer → Option Message → Type 0
IsNext a c None = candidates a c ≡ []
IsNext a c (Some m) = Contains (candidates a c) m

-- somebody asks, whatever for: who listens to a push consumer's subject, or a pull
abbrev pub is_asked : Bool → Consumer → Bool
is_asked listened c = if is_push c then listened else not (is_empty c.waiting)
