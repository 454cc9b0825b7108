-- Why a stored message leaves, by the limits, the retention, the purge and the deletion of JetStream's streams.
use Rattle.std.specs.Prelude.{◌≡◌, ◌≤◌, ◌<◌, ◌+◌, max, nat_lt, filter, length, count_by, sum_by, Contains, IfSome, ◌==◌, Bool, true, false, ℕ, List, Option, Some, None}
use Rattle.js_base.specs.Bytes.{Bytes, same}
use Rattle.js_base.specs.Moments.{plus}
use Rattle.js_base.specs.declared.out.Out.{Out}
use Rattle.js_model.specs.declared.stream.Message.{Message}
use Rattle.js_model.specs.declared.stream.Stream.{Stream}
use Rattle.js_model.specs.declared.stream.State.{State}
use Rattle.js_model.specs.declared.stream.State.TheVariants.{Vacant, Live}
use Rattle.js_model.specs.declared.event.Event.{Event}
use Rattle.js_model.specs.declared.event.What.TheVariants.{Drop as DropStream, Purge, Delete}
use Rattle.js_model.specs.declared.entry.Delivery.{Delivery}
use Rattle.js_model.specs.declared.entry.Call.TheVariants.{Step as StepOf, Deliver as DeliverOf}
use Rattle.js_model.specs.declared.entry.PlaceEntry.{PlaceEntry}
use Rattle.js_model.specs.declared.entry.PlaceEntry.TheVariants.{Step, Deliver, Broken}
use Rattle.js_model.specs.Streams.{passes_filter, size, with_consumer}
use Rattle.js_model.specs.Advance.{advance}
use Rattle.js_model.specs.Retention.{is_kept}
use Rattle.js_model.specs.Trim.{max_messages, trim_subjects, trim_count, trim}
use Rattle.js_model.specs.Events.{purge_list, stream_answer, answered}
use Rattle.js_model.specs.Deliver.{IsDelivery}

-- it is too old at the moment
pub record IsAged (s : Stream) (now : ℕ) (m : Message) : Type 0 where
  pub limited : (s.config.max_age == 0) ≡ false
  pub old : plus m.at s.config.max_age ≤ max s.moment now

-- the messages that come after it
abbrev pub later_than : Message → List Message → List Message
later_than m messages = filter (λ x. nat_lt m.seq x.seq) messages

-- A purge of this filter, below this bound and but for this number of last ones takes it: the filter matches it, it stands below the bound, and as
-- many as are to be kept of those that filter and bound name come after it
pub record IsPurged (s : Stream) (pattern : Bytes) (below keep : Option ℕ) (m : Message) : Type 0 where
  pub passes : passes_filter pattern m.subject ≡ true
  pub bound : IfSome below (λ limit. m.seq < limit)
  pub last : IfSome keep (λ number. number ≤ length (later_than m (purge_list s pattern below None)))

-- A limit drops it: as many later messages as its subject may have; as many as the stream may have, of those that the limit of each subject
-- keeps; or it and later ones with more bytes than the stream may have, of those that the other two limits keep
pub data IsPushedOut (s : Stream) (m : Message) : Type 0 where
  by_subject : (limit : ℕ) → s.config.max_msgs_per_subject ≡ Some limit → limit ≤ count_by (λ x. same x.subject m.subject) (later_than m s.messages) → IsPushedOut s m
  by_count : max_messages s ≤ length (later_than m (trim_subjects s).messages) → IsPushedOut s m
  by_bytes : (limit : ℕ) → s.config.max_bytes ≡ Some limit → limit < size m + sum_by size (later_than m (trim_count (trim_subjects s)).messages) → IsPushedOut s m

-- what the event leaves has it, and a limit drops it from that
abbrev pub IsTrimmed : State → Message → Type 0
IsTrimmed (Vacant i) m = ⊥
IsTrimmed (Live s) m = Contains s.messages m × IsPushedOut s m

-- the stream has it, and its retention does not ask for it by the consumers as they stand
abbrev pub IsUnneeded : Stream → Message → Type 0
IsUnneeded s m = Contains s.messages m × (is_kept s.config.retention s.consumers m ≡ false)

-- the limits keep it of what the event leaves, and the retention does not ask for it
abbrev pub IsUnneededWithinLimits : State → Message → Type 0
IsUnneededWithinLimits (Vacant i) m = ⊥
IsUnneededWithinLimits (Live s) m = IsUnneeded (trim s) m

-- why a message of the stream is gone after an event that left `new`: with the `room` of a reason, the event leaves exactly that
pub data LeavesOnEvent (s : Stream) (e : Event) (now : ℕ) (new : State) (m : Message) : Type 0 where
  aged : IsAged s now m → LeavesOnEvent s e now new m
  purged : (reply : Option Bytes) (pattern : Bytes) (below keep : Option ℕ) → e.what ≡ Purge reply pattern below keep → IsPurged (advance s now) pattern below keep m → LeavesOnEvent s e now new m
  deleted : (reply : Option Bytes) → e.what ≡ Delete reply m.seq → LeavesOnEvent s e now new m
  dropped : (reply : Option Bytes) → e.what ≡ DropStream reply → LeavesOnEvent s e now new m
  trimmed : (room : Bool) → (answered (Live s) e now room).state ≡ new → IsTrimmed (stream_answer (advance s now) e.what room).state m → LeavesOnEvent s e now new m
  unneeded : (room : Bool) → (answered (Live s) e now room).state ≡ new → IsUnneededWithinLimits (stream_answer (advance s now) e.what room).state m → LeavesOnEvent s e now new m

-- why a message of the stream is gone after a delivery that left `new`: the retention is asked with the consumer as it is after the delivery
pub data LeavesOnDelivery (s : Stream) (now : ℕ) (listening : List Bytes) (d : Delivery) (new : State) (m : Message) : Type 0 where
  aged_by_then : IsAged s now m → LeavesOnDelivery s now listening d new m
  not_needed : (outs : List Out) (x : IsDelivery s now listening d outs new) → IsUnneeded (with_consumer (advance s now) x.after) m → LeavesOnDelivery s now listening d new m

abbrev pub Leaves : State → PlaceEntry → State → Message → Type 0
Leaves (Vacant i) entry new m = ⊥
Leaves (Live s) (Step seat e now reply outs unsaid) new m = LeavesOnEvent s e now new m
Leaves (Live s) (Deliver seat now listening d outs) new m = LeavesOnDelivery s now listening d new m
Leaves (Live s) (Broken seat now (StepOf e)) new m = LeavesOnEvent s e now new m
Leaves (Live s) (Broken seat now (DeliverOf listening d)) new m = LeavesOnDelivery s now listening d new m
