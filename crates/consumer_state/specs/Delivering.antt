-- A delivery with what it adds to the outputs, by JetStream's pull and push consumers.
use Rattle.std.specs.Prelude.{◌≡◌, ℕ, ◌+◌, ◌-◌, Bool, if◌then◌else◌, List, [], ◌∷◌, ◌++◌, Option, Some, None, find, ⊤}
use Rattle.js_base.specs.Bytes.{Bytes}
use Rattle.js_base.specs.declared.out.Out.{Out}
use Rattle.js_model.specs.declared.stream.Message.{Message}
use Rattle.js_model.specs.declared.stream.Stream.{Stream}
use Rattle.js_model.specs.declared.consumer.Consumer.{Consumer}
use Rattle.js_model.specs.declared.consumer.Pull.{Pull}
use Rattle.js_model.specs.declared.entry.Delivered.{Delivered}
use Rattle.js_model.specs.declared.entry.Delivered.TheVariants.{Sent, TooSmall as EndedSmall, Emptied}
use Rattle.js_model.specs.Advance.{status_out}
use Rattle.js_model.specs.Counts.{pending_count}
use Rattle.js_model.specs.Deliver.{address, count_of, empty_block, fits, is_listened, sent_to, small_block, without_first, Delivers}
use Rattle.js_model.specs.Ready.{is_ready}
use Rattle.js_model.specs.Streams.{is_push}
use Rattle.consumer_need.specs.Needs.{awaits}
use Rattle.consumer_texts.specs.Deliveries.{SendingFacts, delivery_of}
use Rattle.consumer_state.specs.declared.delivering.Demand.{Demand}
use Rattle.consumer_state.specs.declared.delivering.Demand.TheVariants.{Asked, TooSmall, Nobody}

-- somebody listens to the consumer's subject, or nobody does
abbrev pub IsHeard : List Bytes → Consumer → Bool → Type 0
IsHeard listening c listened = is_listened listening c ≡ listened

-- something can be delivered, whoever else is listened to
abbrev pub IsReady : Stream → Bool → Consumer → Bool → Type 0
IsReady a listened c ready = (listening : List Bytes) → IsHeard listening c listened → ready ≡ is_ready a listening c

-- nothing is delivered
pub record IsIdle (old : Consumer) (outs_old outs_new : List Out) (new : Consumer) : Type 0 where
  pub outs_same : outs_new ≡ outs_old
  pub same : new ≡ old

-- how many messages are still to be delivered after the message was sent
abbrev pub left_after : Consumer → Message → ℕ → ℕ
left_after c m undelivered = if awaits c m.subject m.seq then undelivered - 1 else undelivered

-- the same after a delivery, of the message if it is one of a message
abbrev pub left_of : Delivered → Option Message → Consumer → ℕ → ℕ
left_of (Sent seq count dseq) (Some m) c undelivered = left_after c m undelivered
left_of (Sent seq count dseq) None c undelivered = undelivered
left_of EndedSmall message c undelivered = undelivered
left_of Emptied message c undelivered = undelivered

-- if a message is sent, it is this one
abbrev pub IsOf : Delivered → Option Message → Type 0
IsOf (Sent seq count dseq) (Some m) = seq ≡ m.seq
IsOf (Sent seq count dseq) None = ⊥
IsOf EndedSmall message = ⊤
IsOf Emptied message = ⊤

-- a delivery is made, whoever else is listened to: if it is one of a message, then of this one
pub record IsMade (a : Stream) (listened : Bool) (message : Option Message) (undelivered : ℕ) (old : Consumer) (what : Delivered) (outs_old outs_new : List Out) (new : Consumer) : Type 0 where
  pub own : List Out
  pub outs_are : outs_new ≡ outs_old ++ own
  pub delivers : (listening : List Bytes) → IsHeard listening old listened → Delivers a listening old what own new
  pub message_is : IsOf what message
  pub left : pending_count a new ≡ left_of what message old undelivered

abbrev pub MayDeliver : Stream → Bool → Option Message → ℕ → Consumer → Option Delivered → List Out → List Out → Consumer → Type 0
MayDeliver a listened message undelivered old None outs_old outs_new new = IsIdle old outs_old outs_new new
MayDeliver a listened message undelivered old (Some what) outs_old outs_new new = IsMade a listened message undelivered old what outs_old outs_new new

-- ---- who asks for a message of so many bytes

abbrev pub front_demand : List Pull → ℕ → Demand
front_demand [] bytes = Nobody
front_demand (p ∷ _) bytes = if fits bytes p.bytes then Asked else TooSmall

abbrev pub demand_of : Bool → Consumer → ℕ → Demand
demand_of listened c bytes = if is_push c then (if listened then Asked else Nobody) else front_demand c.waiting bytes

-- ---- the three cases

-- what is told of the delivery of a message of a stream of this name
abbrev pub facts_of : Bytes → Consumer → Message → ℕ → SendingFacts
facts_of stream c m undelivered = record { stream = stream; consumer = c.name; count = count_of c m.seq + 1; dseq = c.dseq + 1; left = left_after c m undelivered }

-- the message is sent
pub record SendsOut (stream : Bytes) (now : ℕ) (m : Message) (undelivered : ℕ) (old : Consumer) (what : Delivered) (outs_old outs_new : List Out) (new : Consumer) : Type 0 where
  pub what_is : what ≡ Sent m.seq (count_of old m.seq + 1) (old.dseq + 1)
  pub after_is : new ≡ sent_to now m old
  pub outs_are : outs_new ≡ outs_old ++ delivery_of (facts_of stream old m undelivered) (address old) m ∷ []

-- the first pull, which is too small for a message, ends
pub record EndsSmall (old : Consumer) (what : Delivered) (outs_old outs_new : List Out) (new : Consumer) : Type 0 where
  pub front : Pull
  pub rest : List Pull
  pub waiting_is : old.waiting ≡ front ∷ rest
  pub what_is : what ≡ EndedSmall
  pub after_is : new ≡ record old { waiting = rest }
  pub outs_are : outs_new ≡ outs_old ++ status_out front.reply (small_block front) ∷ []

-- the first pull that does not wait ends
pub record EndsNoWait (old : Consumer) (what : Delivered) (outs_old outs_new : List Out) (new : Consumer) : Type 0 where
  pub pull : Pull
  pub first : find (λ p. p.no_wait) old.waiting ≡ Some pull
  pub what_is : what ≡ Emptied
  pub after_is : new ≡ record old { waiting = without_first (λ p. p.no_wait) old.waiting }
  pub outs_are : outs_new ≡ outs_old ++ status_out pull.reply empty_block ∷ []

-- or there is none, and nothing changes
pub record HasNoneToEnd (old : Consumer) (outs_old outs_new : List Out) (new : Consumer) : Type 0 where
  pub none : find (λ p. p.no_wait) old.waiting ≡ None
  pub idle : IsIdle old outs_old outs_new new

abbrev pub MayEndNoWait : Consumer → Option Delivered → List Out → List Out → Consumer → Type 0
MayEndNoWait old None outs_old outs_new new = HasNoneToEnd old outs_old outs_new new
MayEndNoWait old (Some what) outs_old outs_new new = EndsNoWait old what outs_old outs_new new
