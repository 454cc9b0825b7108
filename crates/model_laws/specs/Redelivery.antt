-- When a delivery is made again, by the ack wait, the NAK and the WPI of JetStream's consumers.
use Rattle.std.specs.Prelude.{◌≡◌, ◌≤◌, ◌+◌, find, option_map, if◌then◌else◌, max, ◌&&◌, ◌==◌, ℕ, List, [], ◌∷◌, Option, Some, None, ⊤, MatchBool}
use Rattle.js_base.specs.Bytes.{Bytes, same}
use Rattle.js_base.specs.Moments.{plus}
use Rattle.js_model.specs.declared.consumer.Consumer.{Consumer}
use Rattle.js_model.specs.declared.ack.Ack.{Ack}
use Rattle.js_model.specs.declared.ack.AckKind.{AckKind}
use Rattle.js_model.specs.declared.ack.AckKind.TheVariants.{Ack as Acknowledge, Nak, Wpi, Next, Term}
use Rattle.js_model.specs.declared.event.What.{What}
use Rattle.js_model.specs.declared.event.What.TheVariants.{Make, Change, Drop as DropStream, Publish as PublishIt, Purge, Delete, MakeConsumer, DropConsumer, Ack as AckIt, Pull as PullIt, Tick, StreamInfo as AskStream, MessageGet, ConsumerInfo as AskConsumer, ConsumerNames, ConsumerList}
use Rattle.js_model.specs.declared.reply.Reply.{Reply}
use Rattle.js_model.specs.declared.reply.Reply.TheVariants.{Info as StreamTold, Done, Published, Duplicate, Purged, ConsumerInfo as ConsumerTold, Message as MessageTold, Names, Infos, Confirmed, Silent, Nobody, Refused}
use Rattle.js_model.specs.declared.entry.Delivered.{Delivered}
use Rattle.js_model.specs.declared.entry.Delivered.TheVariants.{Sent, TooSmall, Emptied}
use Rattle.js_model.specs.declared.entry.Delivery.{Delivery}
use Rattle.js_model.specs.declared.entry.Call.TheVariants.{Step as StepOf, Deliver as DeliverOf}
use Rattle.js_model.specs.declared.entry.PlaceEntry.{PlaceEntry}
use Rattle.js_model.specs.declared.entry.PlaceEntry.TheVariants.{Step, Deliver, Broken}
use Rattle.model_laws.specs.OneConsumer.{drops}
use Rattle.model_laws.specs.Sendings.{Sending, sending_to}

-- what is known of a sequence: how often it was sent, and from which moment on it may be sent again
abbrev pub Due : Type 0
Due = Option (ℕ × ℕ)

-- the entry of the sequence that stands at first
abbrev pub due_first : ℕ → Consumer → Due
due_first n c = option_map (λ p. (p.count, p.due)) (find (λ p. p.seq == n) c.pending)

-- a NAK sets its own moment, and a WPI the ack wait anew
abbrev pub due_by : ℕ → ℕ → AckKind → ℕ × ℕ → ℕ × ℕ
due_by wait now (Nak delay) x = (x.0, plus now delay)
due_by wait now Wpi x = (x.0, plus now wait)
due_by wait now Acknowledge x = x
due_by wait now (Next ask) x = x
due_by wait now Term x = x

-- what is known after an acknowledgement: one of the sequence that was confirmed may move its moment
abbrev pub due_after_ack : Bytes → ℕ → ℕ → ℕ → Ack → Reply → Due → Due
due_after_ack name n wait now ack Confirmed due = if same ack.consumer name && ack.seq == n then option_map (due_by wait now ack.kind) due else due
due_after_ack name n wait now ack (StreamTold info) due = due
due_after_ack name n wait now ack Done due = due
due_after_ack name n wait now ack (Published m) due = due
due_after_ack name n wait now ack (Duplicate m) due = due
due_after_ack name n wait now ack (Purged m) due = due
due_after_ack name n wait now ack (ConsumerTold info) due = due
due_after_ack name n wait now ack (MessageTold message) due = due
due_after_ack name n wait now ack (Names total list) due = due
due_after_ack name n wait now ack (Infos total list) due = due
due_after_ack name n wait now ack Silent due = due
due_after_ack name n wait now ack Nobody due = due
due_after_ack name n wait now ack (Refused e) due = due

-- what is known after an event
abbrev pub due_after_event : Bytes → ℕ → ℕ → ℕ → What → Reply → Due → Due
due_after_event name n wait now (AckIt asked ack) reply due = due_after_ack name n wait now ack reply due
due_after_event name n wait now (Make asked config) reply due = due
due_after_event name n wait now (Change asked config) reply due = due
due_after_event name n wait now (DropStream asked) reply due = due
due_after_event name n wait now (PublishIt p) reply due = due
due_after_event name n wait now (Purge asked pattern below keep) reply due = due
due_after_event name n wait now (Delete asked seq) reply due = due
due_after_event name n wait now (MakeConsumer asked other config update) reply due = due
due_after_event name n wait now (DropConsumer asked other) reply due = due
due_after_event name n wait now (PullIt asked other ask) reply due = due
due_after_event name n wait now Tick reply due = due
due_after_event name n wait now (AskStream asked) reply due = due
due_after_event name n wait now (MessageGet asked by) reply due = due
due_after_event name n wait now (AskConsumer asked other) reply due = due
due_after_event name n wait now (ConsumerNames asked offset) reply due = due
due_after_event name n wait now (ConsumerList asked offset) reply due = due

abbrev pub due_after_sent : ℕ → ℕ → ℕ → Delivered → Due → Due
due_after_sent n wait now (Sent seq count dseq) due = if seq == n then Some (count, plus now wait) else due
due_after_sent n wait now TooSmall due = due
due_after_sent n wait now Emptied due = due

-- what is known after a delivery: it waits for as long as the ack wait
abbrev pub due_after : Bytes → ℕ → ℕ → ℕ → Delivery → Due → Due
due_after name n wait now d due = if same d.consumer name then due_after_sent n wait now d.what due else due

-- once more than before, and not before its moment
abbrev pub IsAgain : ℕ → ℕ → Due → Type 0
IsAgain now count None = ⊥
IsAgain now count (Some x) = (count ≡ x.0 + 1) × (x.1 ≤ now)

abbrev pub IsDueSending : ℕ → ℕ → Due → List Sending → Type 0
IsDueSending n now due [] = ⊤
IsDueSending n now due (x ∷ xs) = (x.seq ≡ n → 2 ≤ x.count → IsAgain now x.count due) × IsDueSending n now due xs

-- each redelivery of the sequence to the consumer is so; `clock` is the stream's moment
abbrev pub Redelivers : Bytes → ℕ → ℕ → ℕ → Due → List PlaceEntry → Type 0
Redelivers name n wait clock due [] = ⊤
Redelivers name n wait clock due (Step seat e now reply outs unsaid ∷ entries) =
    MatchBool (drops name e.what) ⊤ (Redelivers name n wait (max clock now) (due_after_event name n wait (max clock now) e.what reply due) entries)
Redelivers name n wait clock due (Deliver seat now listening d outs ∷ entries) =
    IsDueSending n (max clock now) due (sending_to name d) × Redelivers name n wait (max clock now) (due_after name n wait (max clock now) d due) entries
Redelivers name n wait clock due (Broken seat now (StepOf e) ∷ entries) = ⊤
Redelivers name n wait clock due (Broken seat now (DeliverOf listening d) ∷ entries) = IsDueSending n (max clock now) due (sending_to name d)
