-- The laws of the machine, of what the entries of a desk of one caller did at one of its places.
use Rattle.std.specs.Prelude.{◌≡◌, true, Contains, replicate, ℕ, List, [], ◌∷◌, None, Some, slice_get}
use Rattle.js_base.specs.Bytes.{Bytes, has}
use Rattle.js_base.specs.declared.out.Out.{Out}
use Rattle.js_model.specs.declared.stream.Message.{Message}
use Rattle.js_model.specs.declared.stream.Stream.{Stream}
use Rattle.js_model.specs.declared.stream.State.TheVariants.{Live}
use Rattle.js_model.specs.declared.consumer_config.ConsumerConfig.{ConsumerConfig}
use Rattle.js_model.specs.declared.consumer.Consumer.{Consumer}
use Rattle.js_model.specs.declared.event.Event.{Event}
use Rattle.js_model.specs.declared.event.What.TheVariants.{Tick}
use Rattle.js_model.specs.declared.reply.Reply.{Reply}
use Rattle.js_model.specs.declared.reply.Reply.TheVariants.{Published}
use Rattle.js_model.specs.declared.entry.PlaceEntry.{PlaceEntry}
use Rattle.js_model.specs.Advance.{advance}
use Rattle.js_model.specs.PlaceStates.{PlaceIn, vacant_place}
use Rattle.js_model.specs.Runs.{messages_of}
use Rattle.js_model.specs.StateMoments.{moment_of, state_at}
use Rattle.js_model.specs.Streams.{seqs}
use Rattle.model_laws.specs.Sound.{IsSound}
use Rattle.model_laws.specs.Bounds.{IsBounded, IsWritable}
use Rattle.model_laws.specs.OneConsumer.{consumer_of}
use Rattle.model_laws.specs.Acked.{has_entry, IsToEnd, IsToStay, EndsEntry, NeverSent}
use Rattle.model_laws.specs.Repeats.{keeps_window, EachEvent, IsRepeatReply, Repeats}
use Rattle.model_laws.specs.Leaving.{Leaves}
use Rattle.model_laws.specs.Order.{IsInOrder, Makes, IsFromStart}
use Rattle.model_laws.specs.MadeWithin.{IsMadeWithin}
use Rattle.model_laws.specs.Redelivery.{due_first, Redelivers}
use Rattle.model_laws.specs.Limits.{AreLimited}
use Rattle.js_api.specs.Worlds.{opening}
use Rattle.talk_laws.specs.Parts.{count_before, IsStepOf, IsStepBefore, IsStepAfter}
use Rattle.talk_laws.specs.Talks.{IsSoundPlace, InEachTalk}

-- a desk opens with places that are sound, within the bounds of a volume and without a message that cannot be written
abbrev pub LawOpening : Type 0
LawOpening = (count place : ℕ) (before : PlaceIn)
    → slice_get (opening (replicate count vacant_place)).world.places place ≡ Some before → IsSoundPlace before × IsBounded before.state × IsWritable before.state

-- each state that stands there is sound
abbrev pub LawTalkSound : Type 0
LawTalkSound = InEachTalk (λ p. IsSound p.old × IsSound p.new)

-- and is within the bounds of a volume, if the first one was
abbrev pub LawTalkBounded : Type 0
LawTalkBounded = InEachTalk (λ p. IsBounded p.first → IsBounded p.old × IsBounded p.new)

-- and its messages can be written, if those of the first one could
abbrev pub LawTalkWritable : Type 0
LawTalkWritable = InEachTalk (λ p. IsWritable p.first → IsWritable p.old × IsWritable p.new)

-- a tick right after one at the same moment that sent nothing changes nothing and sends nothing
abbrev pub LawTalkTick : Type 0
LawTalkTick = InEachTalk (λ p. (first second : Event) (now : ℕ) (reply again : Reply) (outs : List Out)
    → IsStepBefore p first now reply [] → first.what ≡ Tick → IsStepOf p second now again outs → second.what ≡ Tick → (p.new ≡ p.old) × (outs ≡ []))

-- what is acknowledged is not sent again
abbrev pub LawTalkAcked : Type 0
LawTalkAcked = InEachTalk (λ p. (name : Bytes) (n : ℕ) (e : Event) (now : ℕ) (reply : Reply) (outs : List Out)
    → IsStepOf p e now reply outs → EndsEntry p.old e now p.new name n → NeverSent name n p.later)

-- an acknowledgement ends the entries that stand, by its kind and the ack policy
abbrev pub LawTalkEnds : Type 0
LawTalkEnds = InEachTalk (λ p. (name : Bytes) (n : ℕ) (e : Event) (now : ℕ) (reply : Reply) (outs : List Out)
    → IsStepOf p e now reply outs → has_entry n (consumer_of name (state_at p.old now)) ≡ true → IsToEnd (state_at p.old now) e name n
    → EndsEntry p.old e now p.new name n)

-- and no other one, as long as its message is stored
abbrev pub LawTalkStays : Type 0
LawTalkStays = InEachTalk (λ p. (name : Bytes) (n : ℕ) (e : Event) (now : ℕ) (reply : Reply) (outs : List Out)
    → IsStepOf p e now reply outs → has_entry n (consumer_of name (state_at p.old now)) ≡ true → IsToStay (state_at p.old now) e name n
    → has (seqs (messages_of p.new)) n ≡ true → has_entry n (consumer_of name p.new) ≡ true)

-- a repeat of what was published right before the part, right after it, is told the first sequence
abbrev pub LawTalkDuplicate : Type 0
LawTalkDuplicate = InEachTalk (λ p. (n : ℕ) (first second : Event) (now repeated : ℕ) (reply : Reply) (outs others : List Out)
    → IsStepBefore p first now (Published n) outs → EachEvent keeps_window p.entries → IsStepAfter p second repeated reply others
    → Repeats p.old p.new repeated first.what second.what → IsRepeatReply n reply)

-- a stored message leaves only for a reason
abbrev pub LawTalkKept : Type 0
LawTalkKept = InEachTalk (λ p. (entry : PlaceEntry) (m : Message)
    → p.entries ≡ entry ∷ [] → Contains (messages_of p.old) m → (Contains (messages_of p.new) m → ⊥) → Leaves p.old entry p.new m)

-- deliveries come in order
abbrev pub LawTalkOrder : Type 0
LawTalkOrder = InEachTalk (λ p. (name : Bytes) (c : Consumer) → consumer_of name p.old ≡ Some c → IsInOrder name p.old c p.entries)

-- deliveries to a consumer that was made begin where its deliver policy says
abbrev pub LawTalkStart : Type 0
LawTalkStart = InEachTalk (λ p. (name : Bytes) (config : ConsumerConfig) (s : Stream) (e : Event) (now : ℕ) (reply : Reply) (outs : List Out)
    → p.old ≡ Live s → IsStepOf p e now reply outs → Makes (Live s) e reply name config → IsFromStart name config (advance s now) p.new p.later)

-- a consumer that stands after the part and not before it was made within the part
abbrev pub LawTalkMade : Type 0
LawTalkMade = InEachTalk (λ p. (name : Bytes) (c : Consumer)
    → consumer_of name p.old ≡ None → consumer_of name p.new ≡ Some c → IsMadeWithin name (count_before p) p.old p.entries p.new)

-- a delivery is made again only when it is due
abbrev pub LawTalkRedelivery : Type 0
LawTalkRedelivery = InEachTalk (λ p. (name : Bytes) (n : ℕ) (c : Consumer)
    → consumer_of name p.old ≡ Some c → Redelivers name n c.config.ack_wait (moment_of p.old) (due_first n c) p.entries)

-- limits hold
abbrev pub LawTalkLimits : Type 0
LawTalkLimits = InEachTalk (λ p. AreLimited (count_before p) p.old p.new p.entries p.during)
