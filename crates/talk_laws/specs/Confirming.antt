-- An acknowledgement that was confirmed, of what the entries of a desk of one caller did at one of its places, by JetStream's acknowledgements.
use Rattle.std.specs.Prelude.{◌≡◌, ℕ, Bool, true, false, List, Option}
use Rattle.js_base.specs.Bytes.{Bytes}
use Rattle.js_base.specs.declared.out.Out.{Out}
use Rattle.js_model.specs.declared.ack.Ack.{Ack}
use Rattle.js_model.specs.declared.ack.AckKind.{AckKind}
use Rattle.js_model.specs.declared.ack.AckKind.TheVariants.{Ack as Acknowledge, Nak, Wpi, Next, Term}
use Rattle.js_model.specs.declared.event.Event.{Event}
use Rattle.js_model.specs.declared.event.What.TheVariants as whats
use Rattle.js_model.specs.declared.reply.Reply.TheVariants.{Confirmed}
use Rattle.model_laws.specs.Acked.{NeverSent}
use Rattle.talk_laws.specs.Parts.{Part, IsStepOf}
use Rattle.talk_laws.specs.Talks.{InEachTalk}

-- it says that the message is done, or that it is never to come again
abbrev pub is_final : AckKind → Bool
is_final Acknowledge = true
is_final (Nak delay) = false
is_final Wpi = false
is_final (Next ask) = false
is_final Term = true

-- if the part is a step that confirms such an acknowledgement, its sequence is not sent to its consumer behind the part, until the consumer or the
-- stream is dropped
abbrev pub StaysConfirmed : Part → Type 0
StaysConfirmed p = (to : Option Bytes) (ack : Ack) (e : Event) (now : ℕ) (outs : List Out)
    → IsStepOf p e now Confirmed outs → e.what ≡ whats.Ack to ack → is_final ack.kind ≡ true → NeverSent ack.consumer ack.seq p.later

abbrev pub LawTalkConfirmed : Type 0
LawTalkConfirmed = InEachTalk StaysConfirmed
