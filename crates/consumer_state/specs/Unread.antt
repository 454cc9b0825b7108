-- A delivery whose message cannot be read, this server's own: it is made, and what it sends is told to nobody.
use Rattle.std.specs.Prelude.{◌≡◌, Bool, List, [], Option, Some, None, Contains}
use Rattle.js_base.specs.declared.out.Out.{Out}
use Rattle.js_model.specs.declared.stream.Message.{Message}
use Rattle.js_model.specs.declared.stream.Stream.{Stream}
use Rattle.js_model.specs.declared.consumer.Consumer.{Consumer}
use Rattle.js_model.specs.declared.entry.Delivered.{Delivered}
use Rattle.js_model.specs.Counts.{pending_count}
use Rattle.js_model.specs.Deliver.{candidates}
use Rattle.stream_view.specs.Heads.{MessageHead, head_of}
use Rattle.consumer_state.specs.Delivering.{EndsSmall, IsMade}

-- this is seen of some message that may be sent next
pub record IsNextHead (a : Stream) (c : Consumer) (head : MessageHead) : Type 0 where
  pub message : Message
  pub candidate : Contains (candidates a c) message
  pub head_is : head ≡ head_of message

-- a delivery is made, if it is one of a message, then of one of which this is seen
pub record IsMadeUnread (a : Stream) (listened : Bool) (head : MessageHead) (old : Consumer) (what : Delivered) (new : Consumer) : Type 0 where
  pub message : Message
  pub head_is : head ≡ head_of message
  pub sent : List Out
  pub made : IsMade a listened (Some message) (pending_count a old) old what [] sent new

abbrev pub MayDeliverUnread : Stream → Bool → MessageHead → Consumer → Option Delivered → Consumer → Type 0
MayDeliverUnread a listened head old None new = new ≡ old
MayDeliverUnread a listened head old (Some what) new = IsMadeUnread a listened head old what new

-- the first pull, which is too small for a message, ends
pub record EndsUnread (old : Consumer) (what : Delivered) (new : Consumer) : Type 0 where
  pub sent : List Out
  pub ends : EndsSmall old what [] sent new
