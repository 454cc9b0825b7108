-- The laws of the machine, of all that a run of the program made at one of its places, by rules of this server's own.
use Rattle.std.specs.Prelude.{◌≡◌, ℕ, true, List, Option, Some, slice_get}
use Rattle.js_base.specs.Bytes.{Bytes}
use Rattle.js_base.specs.declared.out.Out.{Out}
use Rattle.js_model.specs.declared.event.Event.{Event}
use Rattle.js_model.specs.declared.reply.Reply.{Reply}
use Rattle.js_model.specs.PlaceStates.{PlaceIn}
use Rattle.js_model.specs.StateMoments.{state_at}
use Rattle.model_laws.specs.OneConsumer.{consumer_of}
use Rattle.model_laws.specs.Acked.{has_entry, IsToEnd, NeverSent}
use Rattle.js_api.specs.Worlds.{Scene}
use Rattle.talk_laws.specs.Parts.{Part, IsStepOf}
use Rattle.talk_laws.specs.Talks.{HoldsAt, IsSoundPlace}
use Rattle.talk_laws.specs.Confirming.{StaysConfirmed}
use Rattle.server.specs.declared.words.NamedStream.{NamedStream}
use Rattle.server.specs.Outside.{Outside}
use Rattle.server.specs.Attending.{run_entries}
use Rattle.server.specs.Running.{Attends}

-- if the part is a step whose event acknowledges for good what waited for it, or was given up, then that is not sent again to the consumer of this
-- name behind the part, until the consumer or the stream is dropped
abbrev pub StaysAcked : Part → Type 0
StaysAcked p = (name : Bytes) (n : ℕ) (e : Event) (now : ℕ) (reply : Reply) (outs : List Out)
    → IsStepOf p e now reply outs → has_entry n (consumer_of name (state_at p.old now)) ≡ true → IsToEnd (state_at p.old now) e name n → NeverSent name n p.later

-- Of a run over places that were opened so, whatever stands outside: this holds of each part of all that it made at any of its places that was sound as it
-- was opened.
abbrev pub InEachRun : (Part → Type 0) → Type 0
InEachRun Holds = (opened : List PlaceIn) (stream : Option NamedStream) (after : Scene) (status : ℕ) (old new : Outside)
    → (attends : Attends opened stream after status old new)
    → (place : ℕ) (before : PlaceIn) → slice_get opened place ≡ Some before → IsSoundPlace before
    → HoldsAt Holds place (run_entries opened stream after status old new attends) after before

abbrev pub LawRunAcked : Type 0
LawRunAcked = InEachRun StaysAcked

abbrev pub LawRunConfirmed : Type 0
LawRunConfirmed = InEachRun StaysConfirmed
