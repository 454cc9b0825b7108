-- What an acknowledgement ended, and that it is not sent again, by the acknowledgements of JetStream's consumers.
use Rattle.std.specs.Prelude.{◌≡◌, ◌||◌, ◌&&◌, ◌==◌, Bool, true, false, ℕ, List, [], ◌∷◌, Option, Some, None, ⊤, MatchBool}
use Rattle.js_base.specs.Bytes.{Bytes, same, has}
use Rattle.js_model.specs.declared.stream.State.{State}
use Rattle.js_model.specs.declared.consumer_config.AckPolicy.{AckPolicy}
use Rattle.js_model.specs.declared.consumer.Consumer.{Consumer}
use Rattle.js_model.specs.declared.ack.Ack.{Ack}
use Rattle.js_model.specs.declared.ack.AckKind.{AckKind}
use Rattle.js_model.specs.declared.ack.AckKind.TheVariants.{Ack as Acknowledge, Nak, Wpi, Next, Term}
use Rattle.js_model.specs.declared.event.Event.{Event}
use Rattle.js_model.specs.declared.event.What.{What}
use Rattle.js_model.specs.declared.event.What.TheVariants.{Make, Change, Drop as DropStream, Publish as PublishIt, Purge, Delete, MakeConsumer, DropConsumer, Ack as AckIt, Pull as PullIt, Tick, StreamInfo as AskStream, MessageGet, ConsumerInfo as AskConsumer, ConsumerNames, ConsumerList}
use Rattle.js_model.specs.declared.entry.Delivered.{Delivered}
use Rattle.js_model.specs.declared.entry.Delivered.TheVariants.{Sent, TooSmall, Emptied}
use Rattle.js_model.specs.declared.entry.Delivery.{Delivery}
use Rattle.js_model.specs.declared.entry.Call.TheVariants.{Step as StepOf, Deliver as DeliverOf}
use Rattle.js_model.specs.declared.entry.PlaceEntry.{PlaceEntry}
use Rattle.js_model.specs.declared.entry.PlaceEntry.TheVariants.{Step, Deliver, Broken}
use Rattle.js_model.specs.Streams.{pending_seqs}
use Rattle.js_model.specs.Acknowledge.{ends, is_no_delivery}
use Rattle.js_model.specs.StateMoments.{state_at}
use Rattle.model_laws.specs.OneConsumer.{drops, consumer_of}

-- the event acknowledges a delivery to the consumer of this name
abbrev pub acknowledges : Bytes → What → Bool
acknowledges name (AckIt reply ack) = same ack.consumer name
acknowledges name (Make asked config) = false
acknowledges name (Change asked config) = false
acknowledges name (DropStream asked) = false
acknowledges name (PublishIt p) = false
acknowledges name (Purge asked pattern below keep) = false
acknowledges name (Delete asked n) = false
acknowledges name (MakeConsumer asked other config update) = false
acknowledges name (DropConsumer asked other) = false
acknowledges name (PullIt asked other ask) = false
acknowledges name Tick = false
acknowledges name (AskStream asked) = false
acknowledges name (MessageGet asked by) = false
acknowledges name (AskConsumer asked other) = false
acknowledges name (ConsumerNames asked offset) = false
acknowledges name (ConsumerList asked offset) = false

-- a delivery of the sequence waits for its acknowledgement, or was given up
abbrev pub has_entry : ℕ → Option Consumer → Bool
has_entry n None = false
has_entry n (Some c) = has (pending_seqs c) n || has c.given_up n

-- the consumer is as before but for its pending and given-up entries
pub record ChangesEntries (old new : Consumer) : Type 0 where
  pub rest : new ≡ record old { pending = new.pending; given_up = new.given_up }

-- an acknowledgement of the sequence n ends the entry m: an ACK and a NXT by the ack policy, and a TERM its own
abbrev pub ended_by : AckKind → AckPolicy → ℕ → ℕ → Bool
ended_by Acknowledge policy n m = ends policy n m
ended_by (Next ask) policy n m = ends policy n m
ended_by Term policy n m = m == n
ended_by (Nak delay) policy n m = false
ended_by Wpi policy n m = false

-- at its moment the event acknowledges a sequence that was delivered to the consumer, by which the entry of the sequence n ends
pub record IsToEnd (a : State) (e : Event) (name : Bytes) (n : ℕ) : Type 0 where
  pub asked : Option Bytes
  pub ack : Ack
  pub consumer : Consumer
  pub event : e.what ≡ AckIt asked ack
  pub name_is : ack.consumer ≡ name
  pub found : consumer_of name a ≡ Some consumer
  pub delivered : is_no_delivery consumer ack.seq ≡ false
  pub ended : ended_by ack.kind consumer.config.ack_policy ack.seq n ≡ true

-- it acknowledges a sequence by which the entry of n does not end
pub record IsToStay (a : State) (e : Event) (name : Bytes) (n : ℕ) : Type 0 where
  pub asked : Option Bytes
  pub ack : Ack
  pub consumer : Consumer
  pub event : e.what ≡ AckIt asked ack
  pub name_is : ack.consumer ≡ name
  pub found : consumer_of name a ≡ Some consumer
  pub spared : ended_by ack.kind consumer.config.ack_policy ack.seq n ≡ false

-- an acknowledgement ended the entry of the sequence: it stood at the event's moment, and is gone after it
pub record EndsEntry (old : State) (e : Event) (now : ℕ) (new : State) (name : Bytes) (n : ℕ) : Type 0 where
  pub event : acknowledges name e.what ≡ true
  pub stood : has_entry n (consumer_of name (state_at old now)) ≡ true
  pub gone : has_entry n (consumer_of name new) ≡ false

abbrev pub is_sent : ℕ → Delivered → Bool
is_sent n (Sent seq count dseq) = seq == n
is_sent n TooSmall = false
is_sent n Emptied = false

-- the delivery sends the sequence to the consumer of this name
abbrev pub sends : Bytes → ℕ → Delivery → Bool
sends name n d = same d.consumer name && is_sent n d.what

-- until the consumer or the stream is dropped, the sequence is not sent to it
abbrev pub NeverSent : Bytes → ℕ → List PlaceEntry → Type 0
NeverSent name n [] = ⊤
NeverSent name n (Step seat e now reply outs unsaid ∷ entries) = MatchBool (drops name e.what) ⊤ (NeverSent name n entries)
NeverSent name n (Deliver seat now listening d outs ∷ entries) = (sends name n d ≡ false) × NeverSent name n entries
NeverSent name n (Broken seat now (StepOf e) ∷ entries) = ⊤
NeverSent name n (Broken seat now (DeliverOf listening d) ∷ entries) = sends name n d ≡ false
