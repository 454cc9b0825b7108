-- What is left of a stream if the consumer at a place is asked, by JetStream's pulls, acknowledgements and consumer deletion.
use Rattle.std.specs.Prelude.{◌≡◌, ℕ, Bool, false, ◌||◌, if◌then◌else◌, not, List, [], ◌++◌, Option, Some, None, filter, slice_get}
use Rattle.std.specs.List.{list_any}
use Rattle.js_base.specs.Bytes.{Bytes, same}
use Rattle.js_base.specs.declared.out.Out.{Out}
use Rattle.js_model.specs.declared.ack.Ask.{Ask}
use Rattle.js_model.specs.declared.ack.AckKind.{AckKind}
use Rattle.js_model.specs.declared.stream.Message.{Message}
use Rattle.js_model.specs.declared.stream.Stream.{Stream}
use Rattle.js_model.specs.declared.consumer.Consumer.{Consumer}
use Rattle.js_model.specs.Advance.{is_spent}
use Rattle.js_model.specs.Acknowledge.{acknowledged, is_no_delivery}
use Rattle.js_model.specs.Events.{after_ack, farewells, next_ask, next_outs}
use Rattle.js_model.specs.Pulls.{pulled, pull_outs}
use Rattle.js_model.specs.Retention.{needs}
use Rattle.js_model.specs.Streams.{pending_seqs, with_consumer}
use Rattle.consumer_state.specs.DueAgain.{changed_due}
use Rattle.consumer_state.specs.Ending.{ack_ends, reply_to}
use Rattle.followed_stream.specs.Followers.{Following}
use Rattle.followed_stream.specs.Needing.{NeedSame}
use Rattle.followed_stream.specs.Spans.{spans}
use Rattle.followed_stream.specs.declared.answering.Acked.{Acked}

-- it pulls, and needs the same messages
pub record PullsAt (s : Stream) (place : ℕ) (reply : Option Bytes) (ask : Option Ask) (outs_old outs_new : List Out) (new : Stream) : Type 0 where
  pub consumer : Consumer
  pub found : slice_get s.consumers place ≡ Some consumer
  pub outs : outs_new ≡ outs_old ++ pull_outs reply ask consumer
  pub left : new ≡ with_consumer s (pulled s.moment reply ask consumer)
  pub needed : (m : Message) → NeedSame m new.consumers s.consumers

-- the consumer after an acknowledgement; one of a sequence that was not delivered does nothing
abbrev pub acked : ℕ → Option Bytes → ℕ → AckKind → Consumer → Consumer
acked now reply n kind c = if is_no_delivery c n then c else after_ack now reply n kind c

abbrev pub acked_outs : ℕ → Option Bytes → ℕ → AckKind → Consumer → List Out
acked_outs now reply n kind c = if is_no_delivery c n then [] else next_outs reply (next_ask kind) (acknowledged now n kind c)

-- some delivery that waits or was given up ends
abbrev pub ends_some : (ℕ → Bool) → Consumer → Bool
ends_some ended c = list_any ended (pending_seqs c) || list_any ended c.given_up

-- one consumer gets an acknowledgement, and needs the same of the messages outside the span
pub record IsAcked (now : ℕ) (reply : Option Bytes) (n : ℕ) (kind : AckKind) (old : Following) (told : Acked) (outs_old outs_new : List Out) (new : Following) : Type 0 where
  pub reply_is : told.reply ≡ reply_to old.consumer n kind
  pub ended : told.ended ≡ ends_some (ack_ends old.consumer n kind) old.consumer
  pub due : told.due ≡ changed_due now n kind old.consumer
  pub outs : outs_new ≡ outs_old ++ acked_outs now reply n kind old.consumer
  pub left : new ≡ record old { consumer = acked now reply n kind old.consumer }
  pub loose : (m : Message) → spans told.loose m.seq ≡ false → needs new.consumer m ≡ needs old.consumer m

-- the one at a place gets it
pub record AcksAt (s : Stream) (place : ℕ) (reply : Option Bytes) (n : ℕ) (kind : AckKind) (told : Acked) (outs_old outs_new : List Out) (new : Stream) : Type 0 where
  pub consumer : Consumer
  pub found : slice_get s.consumers place ≡ Some consumer
  pub reply_is : told.reply ≡ reply_to consumer n kind
  pub ended : told.ended ≡ ends_some (ack_ends consumer n kind) consumer
  pub due : told.due ≡ changed_due s.moment n kind consumer
  pub outs : outs_new ≡ outs_old ++ acked_outs s.moment reply n kind consumer
  pub left : new ≡ with_consumer s (acked s.moment reply n kind consumer)
  pub loose : (m : Message) → spans told.loose m.seq ≡ false → NeedSame m new.consumers s.consumers

-- it is dropped
pub record DropsAt (s : Stream) (place : ℕ) (outs_old outs_new : List Out) (new : Stream) : Type 0 where
  pub consumer : Consumer
  pub found : slice_get s.consumers place ≡ Some consumer
  pub outs : outs_new ≡ outs_old ++ farewells consumer
  pub left : new ≡ record s { consumers = filter (λ d. not (same d.name consumer.name)) s.consumers }

-- passing time gives up some of its deliveries; none are given up where there is no consumer
abbrev pub gives_up : ℕ → Option Consumer → Bool
gives_up now None = false
gives_up now (Some c) = list_any (is_spent now c) c.pending
