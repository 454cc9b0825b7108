-- What may be asked of a place, and what is told of its stream.
use Rattle.std.specs.Prelude.{◌≡◌, ℕ, Bool, false, List, [], length, Option, None, Some, IfSome, IsUtf8}
use Rattle.js_base.specs.Bytes.{Bytes}
use Rattle.js_model.specs.declared.consumer.Consumer.{Consumer}
use Rattle.js_model.specs.declared.stream.Id.{Id}
use Rattle.js_model.specs.declared.stream.State.{State}
use Rattle.js_model.specs.declared.stream.State.TheVariants.{Vacant, Live}
use Rattle.js_model.specs.declared.stream_config.StreamConfig.{StreamConfig}
use Rattle.js_model.specs.declared.event.Publish.{Publish}
use Rattle.js_model.specs.declared.event.What.{What}
use Rattle.js_model.specs.declared.event.What.TheVariants as whats
use Rattle.js_model.specs.Configs.{same_stream_config}
use Rattle.js_model.specs.Runs.{messages_of}

-- the name of a header with a bad number is UTF-8, since it is told
abbrev pub IsTold : What → Type 0
IsTold what = (publish : Publish) → what ≡ whats.Publish publish → IfSome publish.wants.bad IsUtf8

-- there is no stream
abbrev pub IsVacant : State → Type 0
IsVacant (Vacant last) = Unit {0}
IsVacant (Live stream) = ⊥

-- the name of the stream, if there is one
abbrev pub name_in : State → Option Bytes
name_in (Vacant last) = None
name_in (Live stream) = Some stream.config.name

-- its subjects, none if there is no stream
abbrev pub subjects_in : State → List Bytes
subjects_in (Vacant last) = []
subjects_in (Live stream) = stream.config.subjects

-- how many messages it holds, none if there is no stream
abbrev pub messages_in : State → ℕ
messages_in state = length (messages_of state)

-- the ids of its duplicate window, none if there is no stream
abbrev pub ids_in : State → List Id
ids_in (Vacant last) = []
ids_in (Live stream) = stream.ids

-- its consumers, none if there is no stream
abbrev pub consumers_in : State → List Consumer
consumers_in (Vacant last) = []
consumers_in (Live stream) = stream.consumers

-- there is a stream, and this is its configuration
abbrev pub is_config : State → StreamConfig → Bool
is_config (Vacant last) config = false
is_config (Live stream) config = same_stream_config config stream.config
