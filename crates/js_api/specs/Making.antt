-- The making of the stream that the command line names: as a call that creates it, without an answer. A stream of this name that is there is left as it is.
use Rattle.std.specs.Prelude.{◌≡◌, ◌++◌, ℕ, List, Option, Some, None, Result}
use Rattle.js_base.specs.Bytes.{Bytes}
use Rattle.js_base.specs.declared.out.ApiError.{ApiError}
use Rattle.js_model.specs.declared.stream_config.StreamConfig.{StreamConfig}
use Rattle.js_model.specs.declared.event.What.TheVariants as whats
use Rattle.js_model.specs.declared.reply.Reply.{Reply}
use Rattle.js_model.specs.declared.reply.Reply.TheVariants.{Info, Done, Published, Duplicate, Purged, ConsumerInfo, Message, Names, Infos, Confirmed, Silent, Nobody, Refused}
use Rattle.js_model.specs.declared.desk.PlaceAt.{PlaceAt}
use Rattle.js_model.specs.Refusals.{store_fault, stream_stopped}
use Rattle.js_model.specs.Catalog as catalog
use Rattle.js_api.specs.declared.fault.DeskFault.{DeskFault}
use Rattle.js_api.specs.declared.outcome.Became.{Became}
use Rattle.js_api.specs.declared.outcome.Became.TheVariants.{Made, Unsaid, Ticked, Nothing, Broke, Stopped, Gone}
use Rattle.js_api.specs.declared.outcome.Outcome.{Outcome}
use Rattle.js_api.specs.Entries.{DeskEntry}
use Rattle.js_api.specs.Stages.{Then, Gives, Reads, Ending}
use Rattle.js_api.specs.Holding.{Holds}
use Rattle.js_api.specs.OneStream.{IsNamed, IsAdding, IsShort, free_unless_made}

-- why the stream was not made
abbrev pub refusal_in : Reply → Option ApiError
refusal_in (Info info) = None
refusal_in Done = None
refusal_in (Published n) = None
refusal_in (Duplicate n) = None
refusal_in (Purged n) = None
refusal_in (ConsumerInfo info) = None
refusal_in (Message m) = None
refusal_in (Names total list) = None
refusal_in (Infos total list) = None
refusal_in Confirmed = None
refusal_in Silent = None
refusal_in Nobody = None
refusal_in (Refused e) = Some e

-- the catalog knows the incarnation of the place that it gave, so the place is not gone
abbrev pub IsMaking : Became → Result (Option ApiError) DeskFault → List DeskEntry → Type 0
IsMaking (Made reply) result entries = Gives (refusal_in reply) result entries
IsMaking (Unsaid refused) result entries = ⊥
IsMaking Ticked result entries = ⊥
IsMaking Nothing result entries = ⊥
IsMaking (Broke stream) result entries = Gives (Some store_fault) result entries
IsMaking (Stopped stream) result entries = Gives (Some stream_stopped) result entries
IsMaking Gone result entries = ⊥

-- the stream is made at the place that was taken for it
pub record MakesAt (config : StreamConfig) (now : ℕ) (at : PlaceAt) (result : Result (Option ApiError) DeskFault) (entries : List DeskEntry) : Type 0 where
  pub outcome : Outcome
  pub held : List DeskEntry
  pub ended : List DeskEntry
  pub entries_are : entries ≡ held ++ (free_unless_made at outcome.became ++ ended)
  pub holds : Holds at (whats.Make None config) now outcome held
  pub ends : Ending outcome.fault (IsMaking outcome.became) result ended

abbrev pub GoesOnTaken : StreamConfig → ℕ → catalog.CatTold → Result (Option ApiError) DeskFault → List DeskEntry → Type 0
GoesOnTaken config now (catalog.At (Some at)) result entries = MakesAt config now at result entries
GoesOnTaken config now (catalog.At None) result entries = ⊥
GoesOnTaken config now (catalog.Refused e) result entries = Gives (Some e) result entries
GoesOnTaken config now catalog.NoMemory result entries = IsShort result entries
GoesOnTaken config now catalog.Done result entries = ⊥

-- its configuration is put together, and a place is taken for it
abbrev pub IsPreparing : Bytes → StreamConfig → ℕ → Result (Option ApiError) DeskFault → List DeskEntry → Type 0
IsPreparing name config now result entries = Then (Reads config) (λ given. IsAdding name given (GoesOnTaken given now)) result entries

-- by its name the stream is found, or it is made; what is given is why it was not
abbrev pub MakesStream : Bytes → StreamConfig → ℕ → Result (Option ApiError) DeskFault → List DeskEntry → Type 0
MakesStream name config now result entries = IsNamed name (IsPreparing name config now) (λ at. Gives None) result entries
