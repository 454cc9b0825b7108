-- What holds of each run of a place, in the words of JetStream's streams and consumers: the laws follow from the definitions of the machine.
use Rattle.std.specs.Prelude.{◌≡◌, Bool, true, Decides, Contains, ℕ, List, [], ◌∷◌, Some, None, IsTrue, ◌↔◌}
use Rattle.js_base.specs.Bytes.{Bytes, has}
use Rattle.js_base.specs.declared.out.Out.{Out}
use Rattle.js_model.specs.declared.stream.Message.{Message}
use Rattle.js_model.specs.declared.stream.Stream.{Stream}
use Rattle.js_model.specs.declared.stream.State.{State}
use Rattle.js_model.specs.declared.stream.State.TheVariants.{Live}
use Rattle.js_model.specs.declared.consumer_config.ConsumerConfig.{ConsumerConfig}
use Rattle.js_model.specs.declared.consumer.Consumer.{Consumer}
use Rattle.js_model.specs.declared.ack.AckKind.{AckKind}
use Rattle.js_model.specs.declared.event.Event.{Event}
use Rattle.js_model.specs.declared.event.What.TheVariants.{Tick}
use Rattle.js_model.specs.declared.event.Publish.{Publish}
use Rattle.js_model.specs.declared.reply.Verdict.TheVariants.{Take}
use Rattle.js_model.specs.declared.reply.Reply.{Reply}
use Rattle.js_model.specs.declared.reply.Reply.TheVariants.{Published}
use Rattle.js_model.specs.declared.entry.Delivered.{Delivered}
use Rattle.js_model.specs.declared.entry.PlaceEntry.{PlaceEntry}
use Rattle.js_model.specs.Advance.{advance}
use Rattle.js_model.specs.Deliver.{Delivers}
use Rattle.js_model.specs.Ready.{is_ready}
use Rattle.js_model.specs.Verdict.{verdict, discards_new}
use Rattle.js_model.specs.Trim.{trim, trim_subjects}
use Rattle.js_model.specs.Events.{with_message}
use Rattle.js_model.specs.Runs.{RunFrom, IsStep, messages_of}
use Rattle.js_model.specs.Streams.{seqs}
use Rattle.js_model.specs.Acknowledge.{acknowledged}
use Rattle.js_model.specs.StateMoments.{moment_of, state_at}
use Rattle.model_laws.specs.Sound.{IsWellStored, IsMatched, IsSound}
use Rattle.js_model.specs.Firm.{Changes}
use Rattle.js_model.specs.Lasting.{lasting}
use Rattle.model_laws.specs.Changed.{changes}
use Rattle.model_laws.specs.Bounds.{IsBounded, IsWritable}
use Rattle.model_laws.specs.BoundTests.{is_bounded, is_writable}
use Rattle.model_laws.specs.SoundTests.{is_well_stored, is_matched}
use Rattle.model_laws.specs.OneConsumer.{consumer_of}
use Rattle.model_laws.specs.Acked.{has_entry, ChangesEntries, IsToEnd, IsToStay, EndsEntry, NeverSent}
use Rattle.model_laws.specs.Repeats.{keeps_window, EachEvent, IsRepeatReply, Repeats}
use Rattle.model_laws.specs.Leaving.{Leaves}
use Rattle.model_laws.specs.Order.{IsInOrder, Makes, IsFromStart}
use Rattle.model_laws.specs.MadeWithin.{IsMadeWithin}
use Rattle.model_laws.specs.Redelivery.{due_first, Redelivers}
use Rattle.model_laws.specs.Limits.{AreLimited}

-- soundness is kept
abbrev pub LawSound : Type 0
LawSound = (count : ℕ) (old new : State) (entries : List PlaceEntry) → IsSound old → RunFrom count old entries new → IsSound new

-- what outlives a crash of a sound state is sound
abbrev pub LawSoundLasting : Type 0
LawSoundLasting = (s : State) → IsSound s → IsSound (lasting s)

-- both of its parts can be computed
abbrev pub LawStoredTest : Type 0
LawStoredTest = (s : State) → Decides (is_well_stored s) (IsWellStored s)

abbrev pub LawMatchedTest : Type 0
LawMatchedTest = (s : State) → Decides (is_matched s) (IsMatched s)

-- whether more than the moment changed of what outlives a crash can be computed
abbrev pub LawChangesTest : Type 0
LawChangesTest = (old new : State) → Decides (changes old new) (Changes old new)

-- a state within the bounds of a volume stays so
abbrev pub LawBounded : Type 0
LawBounded = (count : ℕ) (old new : State) (entries : List PlaceEntry) → IsSound old → IsBounded old → RunFrom count old entries new → IsBounded new

-- what outlives a crash is within them too
abbrev pub LawBoundedLasting : Type 0
LawBoundedLasting = (s : State) → IsBounded s → IsBounded (lasting s)

-- and whether a state is within them can be computed
abbrev pub LawBoundedTest : Type 0
LawBoundedTest = (s : State) → Decides (is_bounded s) (IsBounded s)

-- a state whose messages can be written stays so
abbrev pub LawWritable : Type 0
LawWritable = (count : ℕ) (old new : State) (entries : List PlaceEntry) → IsWritable old → RunFrom count old entries new → IsWritable new

-- what outlives a crash has the same messages
abbrev pub LawWritableLasting : Type 0
LawWritableLasting = (s : State) → IsWritable s → IsWritable (lasting s)

-- and whether they can be written is computed
abbrev pub LawWritableTest : Type 0
LawWritableTest = (s : State) → Decides (is_writable s) (IsWritable s)

-- a tick right after one at the same moment that sent nothing changes nothing and sends nothing
abbrev pub LawTick : Type 0
LawTick = (count later now : ℕ) (old mid new : State) (first second : Event) (reply again : Reply) (outs : List Out)
    → IsStep count old first now reply [] mid → first.what ≡ Tick → IsStep later mid second now again outs new → second.what ≡ Tick → (new ≡ mid) × (outs ≡ [])

-- what is acknowledged is not sent again
abbrev pub LawAcked : Type 0
LawAcked = (name : Bytes) (n count later : ℕ) (old mid new : State) (e : Event) (now : ℕ) (reply : Reply) (outs : List Out) (entries : List PlaceEntry)
    → IsSound old → IsStep count old e now reply outs mid → EndsEntry old e now mid name n → RunFrom later mid entries new → NeverSent name n entries

-- an acknowledgement ends the entries that stand, by its kind and the ack policy
abbrev pub LawEnds : Type 0
LawEnds = (name : Bytes) (n count : ℕ) (old mid : State) (e : Event) (now : ℕ) (reply : Reply) (outs : List Out)
    → IsSound old → IsStep count old e now reply outs mid → has_entry n (consumer_of name (state_at old now)) ≡ true → IsToEnd (state_at old now) e name n → EndsEntry old e now mid name n

-- and no other one, as long as its message is stored
abbrev pub LawStays : Type 0
LawStays = (name : Bytes) (n count : ℕ) (old mid : State) (e : Event) (now : ℕ) (reply : Reply) (outs : List Out)
    → IsSound old → IsStep count old e now reply outs mid → has_entry n (consumer_of name (state_at old now)) ≡ true → IsToStay (state_at old now) e name n
    → has (seqs (messages_of mid)) n ≡ true → has_entry n (consumer_of name mid) ≡ true

-- an acknowledgement changes nothing of its consumer but the entries
abbrev pub LawEntries : Type 0
LawEntries = (now n : ℕ) (kind : AckKind) (c : Consumer) → ChangesEntries c (acknowledged now n kind c)

-- a repeat is told its first sequence
abbrev pub LawDuplicate : Type 0
LawDuplicate = (n count between after : ℕ) (old mid later new : State) (first second : Event) (now repeated : ℕ) (reply : Reply) (outs others : List Out) (entries : List PlaceEntry)
    → IsSound old → IsStep count old first now (Published n) outs mid → RunFrom between mid entries later → EachEvent keeps_window entries
    → IsStep after later second repeated reply others new → Repeats mid later repeated first.what second.what → IsRepeatReply n reply

-- a stored message leaves only for a reason. The message itself is gone: another one of its sequence does not stand for it
abbrev pub LawKept : Type 0
LawKept = (count later : ℕ) (first old new : State) (entries : List PlaceEntry) (entry : PlaceEntry) (m : Message)
    → IsSound first → RunFrom count first entries old → RunFrom later old (entry ∷ []) new
    → Contains (messages_of old) m → (Contains (messages_of new) m → ⊥) → Leaves old entry new m

-- after a publish that was taken under discard new the limits on messages and on bytes drop nothing
abbrev pub LawTaken : Type 0
LawTaken = (s : Stream) (p : Publish) (room : Bool) → verdict s p room ≡ Take → discards_new s ≡ true → trim (with_message s p) ≡ trim_subjects (with_message s p)

-- deliveries come in order
abbrev pub LawOrder : Type 0
LawOrder = (name : Bytes) (count : ℕ) (old new : State) (entries : List PlaceEntry) (c : Consumer)
    → IsSound old → consumer_of name old ≡ Some c → RunFrom count old entries new → IsInOrder name old c entries

-- deliveries to a consumer that was made begin where its deliver policy says
abbrev pub LawStart : Type 0
LawStart = (name : Bytes) (config : ConsumerConfig) (count later : ℕ) (old : Stream) (made new : State) (e : Event) (now : ℕ) (reply : Reply) (outs : List Out) (entries : List PlaceEntry)
    → IsSound (Live old) → IsStep count (Live old) e now reply outs made → Makes (Live old) e reply name config → RunFrom later made entries new
    → IsFromStart name config (advance old now) made entries

-- a consumer that stands after a run and not before it was made within the run
abbrev pub LawMade : Type 0
LawMade = (name : Bytes) (count : ℕ) (old new : State) (entries : List PlaceEntry) (c : Consumer)
    → IsSound old → consumer_of name old ≡ None → consumer_of name new ≡ Some c → RunFrom count old entries new → IsMadeWithin name count old entries new

-- a delivery is made again only when it is due
abbrev pub LawRedelivery : Type 0
LawRedelivery = (name : Bytes) (n count : ℕ) (old new : State) (entries : List PlaceEntry) (c : Consumer)
    → IsSound old → consumer_of name old ≡ Some c → RunFrom count old entries new → Redelivers name n c.config.ack_wait (moment_of old) (due_first n c) entries

-- limits hold
abbrev pub LawLimits : Type 0
LawLimits = (count : ℕ) (old new : State) (entries : List PlaceEntry) → IsSound old → (r : RunFrom count old entries new) → AreLimited count old new entries r

-- one of the three cases of a delivery holds
abbrev pub CanDeliver : Stream → List Bytes → Consumer → Type 0
CanDeliver a listening c = (what : Delivered) × (outs : List Out) × (after : Consumer) × Delivers a listening c what outs after

-- a consumer is ready if and only if something can be delivered to it
abbrev pub LawReady : Type 0
LawReady = (a : Stream) (listening : List Bytes) (c : Consumer) → IsTrue (is_ready a listening c) ↔ CanDeliver a listening c
