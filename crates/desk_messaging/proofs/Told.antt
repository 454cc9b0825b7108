-- What a stream is told that it alone answers.
use Rattle.std.proofs.Common.{◌≡◌, ℕ, Bool, true, false, List, [], ◌++◌, Option, Some, Result, Ok, Err, refl, IsTrue}
use Rattle.std.proofs.lemmas.Bool.{and_from}
use Rattle.js_base.specs.Bytes.{Bytes}
use Rattle.js_base.specs.Names.{name_of}
use Rattle.js_base.specs.Subjects.{is_subject_text}
use Rattle.js_base.specs.declared.name.NameFault.{NameFault}
use Rattle.js_model.specs.declared.ack.Ask.{Ask}
use Rattle.js_model.specs.declared.desk.PlaceAt.{PlaceAt}
use Rattle.js_model.specs.declared.event.What.{What}
use Rattle.js_model.specs.declared.event.What.TheVariants as whats
use Rattle.js_model.specs.Proper.{if_given, is_proper_ask}
use Rattle.stream_config.proofs.Named.{read_name}
use Rattle.js_api.specs.declared.fault.DeskFault.{DeskFault}
use Rattle.js_api.specs.declared.outcome.Became.{Became}
use Rattle.js_api.specs.declared.outcome.Outcome.{Outcome}
use Rattle.js_api.specs.Entries.{DeskEntry}
use Rattle.js_api.specs.Holding.{Holds}
use Rattle.js_api.specs.Leading.{Makes}
use Rattle.js_api.specs.OneConsumer.{IsHeard, IsToldAt, IsTold, are_names, IsPullingBy, IsPulling}
use Rattle.js_api.specs.Stages.{Ending, Gives, Reads}
use Rattle.desk_answers.specs.Asking.{MayAsk}
use Rattle.desk_ground.specs.Grounds.{Phase}
use Rattle.desk_ground.specs.Outcomes.{MayHold, phase_after}
use Rattle.desk_ground.proofs.Stages.{as_such, goes_on, if_not, if_so, nothing}
use Rattle.desk_messaging.specs.declared.hearing.Telling.{Telling}
use Rattle.desk_messaging.specs.declared.hearing.Telling.TheVariants.{Pull, Ack}
use Rattle.desk_messaging.specs.Tellings.{what_of, ReadsNames}

-- ---- a hold

-- a stream is told in any phase, which is left
pub may_hold : (telling : Telling) (to : Option Bytes) (phase : Phase) → MayHold (what_of telling to) phase
may_hold (Pull consumer ask) to phase = tt
may_hold (Ack ack) to phase = tt

pub same_phase : (telling : Telling) (to : Option Bytes) (at : PlaceAt) (became : Became) (phase : Phase) → phase_after (what_of telling to) at became phase ≡ phase
same_phase (Pull consumer ask) to at became phase = refl
same_phase (Ack ack) to at became phase = refl

-- the hold, which ends so
pub told_at : {D : Type 0} (made : D → List DeskEntry → D → Type 0) (what : What) (now : ℕ) (at : PlaceAt) (outcome : Outcome) (result : Result Bool DeskFault) (a b : D) → Makes made (Holds at what now outcome) a b
    → Ending outcome.fault (IsHeard outcome.became) result [] → Makes made (IsToldAt what now at result) a b
told_at made what now at outcome result a b h e =
    as_such made (Holds at what now outcome) (IsToldAt what now at result) a b h (λ entries holds. record { outcome = outcome; holds = holds; ends = e })

-- ---- a question for messages

pub may_pull : (consumer : Bytes) (ask : Option Ask) (to : Option Bytes) → name_of consumer ≡ Ok consumer → IsTrue (if_given is_proper_ask ask) → IsTrue (if_given is_subject_text to) → MayAsk (whats.Pull to consumer ask)
may_pull consumer ask to named proper reply = record { reply = reply; proper = and_from _ _ (read_name consumer named) proper; built = tt }

both_names : (a b : Result Bytes NameFault) (x y : Bytes) → a ≡ Ok x → b ≡ Ok y → are_names a b ≡ true
both_names (Ok s) (Ok c) x y h k = refl
both_names (Ok s) (Err fault) x y h k = absurd (cc)
both_names (Err fault) b x y h k = absurd (cc)

module _ {D : Type 0} (made : D → List DeskEntry → D → Type 0) (more : (a b c : D) (first more : List DeskEntry) → made a first b → made b more c → made a (first ++ more) c) (stream consumer : Bytes) (ask : Option Ask)
    (to : Option Bytes) (now : ℕ) where
  abbrev named : Bool
  named = are_names (name_of stream) (name_of consumer)

  read_so : (a : D) → made a [] a → Makes made (Reads named (Ok named)) a a
  read_so a led = nothing made (Reads named (Ok named)) a led (refl, refl)

  -- both texts are names
  pub pulled : (result : Result Bool DeskFault) (a b : D) → made a [] a → named ≡ true → Makes made (IsTold stream (whats.Pull to consumer ask) now result) a b → Makes made (IsPulling stream consumer ask to now result) a b
  pulled result a b led are h =
      goes_on made more (Reads named) (λ given. IsPullingBy given stream consumer ask to now) (Ok named) named result a a b refl (read_so a led)
      (if_so made named (IsTold stream (whats.Pull to consumer ask) now result) (Gives false result) a b are h)

  -- one of them is none
  pub unpulled : (a : D) → made a [] a → named ≡ false → Makes made (IsPulling stream consumer ask to now (Ok false)) a a
  unpulled a led none =
      goes_on made more (Reads named) (λ given. IsPullingBy given stream consumer ask to now) (Ok named) named (Ok false) a a a refl (read_so a led)
      (if_not made named (IsTold stream (whats.Pull to consumer ask) now (Ok false)) (Gives false (Ok false)) a a none
      (nothing made (Gives false (Ok false)) a led (record { result_is = refl; entries_are = refl })))

-- the names that were read are those texts
pub read_both : (stream consumer first second : Bytes) → ReadsNames (Some (first, second)) stream consumer → are_names (name_of stream) (name_of consumer) ≡ true
read_both stream consumer first second r = both_names (name_of stream) (name_of consumer) first second r.0.0 r.1.0
