-- One delivery to a consumer of a stream for which time has passed, by JetStream's pull and push consumers.
use Rattle.std.specs.Prelude.{◌≡◌, ◌≤◌, ◌<◌, ℕ, Bool, true, false, List, ◌++◌, Option, Some, None, slice_get}
use Rattle.std.specs.List.{list_any}
use Rattle.js_base.specs.Bytes.{Bytes}
use Rattle.js_base.specs.declared.out.Out.{Out}
use Rattle.js_model.specs.declared.stream.Stream.{Stream}
use Rattle.js_model.specs.declared.consumer.Consumer.{Consumer}
use Rattle.js_model.specs.declared.entry.Delivered.{Delivered}
use Rattle.js_model.specs.declared.entry.Delivery.{Delivery}
use Rattle.js_model.specs.Deliver.{Delivers}
use Rattle.js_model.specs.Ready.{is_ready}
use Rattle.js_model.specs.Streams.{by_name, with_consumer}
use Rattle.followed_stream.specs.Handing.{is_of}

-- the delivery, if one is made, is of the message of this sequence
abbrev pub is_of_some : Option Delivered → ℕ → Bool
is_of_some None seq = false
is_of_some (Some what) seq = is_of what seq

-- something can be delivered to the consumer, if there is one
abbrev pub is_ready_if : Stream → List Bytes → Option Consumer → Bool
is_ready_if s listening None = false
is_ready_if s listening (Some c) = is_ready s listening c

-- it can to the consumer at the place, or to none of those from a place on and before another
abbrev pub FindsAmong : Stream → List Bytes → ℕ → ℕ → Option ℕ → Type 0
FindsAmong s listening from end None = (place : ℕ) → from ≤ place → place < end → is_ready_if s listening (slice_get s.consumers place) ≡ false
FindsAmong s listening from end (Some place) = is_ready_if s listening (slice_get s.consumers place) ≡ true

-- or to none of all
abbrev pub FindsReady : Stream → List Bytes → Option ℕ → Type 0
FindsReady s listening None = list_any (is_ready s listening) s.consumers ≡ false
FindsReady s listening (Some place) = is_ready_if s listening (slice_get s.consumers place) ≡ true

-- the delivery is made to the consumer at the place, which it names
pub record Serves (s : Stream) (place : ℕ) (listening : List Bytes) (made : Delivery) (outs_old outs_new : List Out) (new : Stream) : Type 0 where
  pub consumer : Consumer
  pub after : Consumer
  pub own : List Out
  pub at : slice_get s.consumers place ≡ Some consumer
  pub found : by_name s.consumers made.consumer ≡ Some consumer
  pub delivers : Delivers s listening consumer made.what own after
  pub outs_are : outs_new ≡ outs_old ++ own
  pub new_is : new ≡ with_consumer s after

-- nothing can be delivered to the consumer at the place, if there is one, and nothing is
pub record ServesNone (s : Stream) (place : ℕ) (listening : List Bytes) (outs_old outs_new : List Out) (new : Stream) : Type 0 where
  pub unready : is_ready_if s listening (slice_get s.consumers place) ≡ false
  pub outs_same : outs_new ≡ outs_old
  pub same : new ≡ s

abbrev pub MayServe : Stream → ℕ → List Bytes → Option Delivery → List Out → List Out → Stream → Type 0
MayServe s place listening None outs_old outs_new new = ServesNone s place listening outs_old outs_new new
MayServe s place listening (Some made) outs_old outs_new new = Serves s place listening made outs_old outs_new new
