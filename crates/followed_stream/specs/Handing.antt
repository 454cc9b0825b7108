-- One delivery to a consumer as its stream keeps it, this server's own: how many messages are left to be delivered, and which messages stay needed.
use Rattle.std.specs.Prelude.{◌≡◌, ℕ, Bool, false, ◌==◌, List, ◌++◌, Option, Some, None, All, slice_get}
use Rattle.js_base.specs.Bytes.{Bytes}
use Rattle.js_base.specs.declared.out.Out.{Out}
use Rattle.js_model.specs.declared.stream.Stream.{Stream}
use Rattle.js_model.specs.declared.consumer.Consumer.{Consumer}
use Rattle.js_model.specs.declared.entry.Delivered.{Delivered}
use Rattle.js_model.specs.declared.entry.Delivered.TheVariants.{Sent, TooSmall, Emptied}
use Rattle.js_model.specs.Deliver.{Delivers}
use Rattle.js_model.specs.Retention.{needs}
use Rattle.js_model.specs.Streams.{with_consumer}
use Rattle.consumer_need.specs.Stored.{HoldsStored}
use Rattle.consumer_state.specs.Delivering.{IsHeard, IsReady}
use Rattle.followed_stream.specs.Followers.{Following, IsCounted}
use Rattle.followed_stream.specs.Needing.{NeedSame}
use Rattle.followed_stream.specs.Delivering.{IsIdleAt}

-- the delivery is of the message of this sequence
abbrev pub is_of : Delivered → ℕ → Bool
is_of (Sent n count dseq) seq = n == seq
is_of TooSmall seq = false
is_of Emptied seq = false

-- nothing is delivered, since nothing can be
pub record IsIdleFor (s : Stream) (listened : Bool) (old : Following) (outs_old outs_new : List Out) (new : Following) : Type 0 where
  pub unready : IsReady s listened old.consumer false
  pub outs_same : outs_new ≡ outs_old
  pub same : new ≡ old

-- a delivery is made, whoever else is listened to; the stored messages but its own are needed as before
pub record IsMadeFor (s : Stream) (listened : Bool) (old : Following) (what : Delivered) (outs_old outs_new : List Out) (new : Following) : Type 0 where
  pub own : List Out
  pub outs_are : outs_new ≡ outs_old ++ own
  pub delivers : (listening : List Bytes) → IsHeard listening old.consumer listened → Delivers s listening old.consumer what own new.consumer
  pub counted : IsCounted s.messages new
  pub name : new.consumer.name ≡ old.consumer.name
  pub filter_same : new.consumer.config ≡ old.consumer.config
  pub held : HoldsStored s new.consumer
  pub needed : All (λ m. is_of what m.seq ≡ false → needs new.consumer m ≡ needs old.consumer m) s.messages

abbrev pub DeliversFor : Stream → Bool → Following → Option Delivered → List Out → List Out → Following → Type 0
DeliversFor s listened old None outs_old outs_new new = IsIdleFor s listened old outs_old outs_new new
DeliversFor s listened old (Some what) outs_old outs_new new = IsMadeFor s listened old what outs_old outs_new new

-- the same of the consumer at a place of a stream
pub record HandsAt (s : Stream) (place : ℕ) (listened : Bool) (what : Delivered) (outs_old outs_new : List Out) (new : Stream) : Type 0 where
  pub consumer : Consumer
  pub after : Consumer
  pub own : List Out
  pub found : slice_get s.consumers place ≡ Some consumer
  pub outs_are : outs_new ≡ outs_old ++ own
  pub delivers : (listening : List Bytes) → IsHeard listening consumer listened → Delivers s listening consumer what own after
  pub left : new ≡ with_consumer s after
  pub needed : All (λ m. is_of what m.seq ≡ false → NeedSame m new.consumers s.consumers) s.messages

abbrev pub MayHandAt : Stream → ℕ → Bool → Option Delivered → List Out → List Out → Stream → Type 0
MayHandAt s place listened None outs_old outs_new new = IsIdleAt s place listened outs_old outs_new new
MayHandAt s place listened (Some what) outs_old outs_new new = HandsAt s place listened what outs_old outs_new new
