-- Calls of the JetStream API on the consumers of one stream, and acknowledgements. A question for messages and an acknowledgement have no answer but what
-- the stream itself sends; somebody took them if their stream is there, and for a question its consumer too.
use Rattle.std.specs.Prelude.{ℕ, Bool, true, false, List, [], MatchBool, Option, Result, Ok, Err}
use Rattle.js_base.specs.Bytes.{Bytes}
use Rattle.js_base.specs.Names.{name_of}
use Rattle.js_base.specs.declared.name.NameFault.{NameFault}
use Rattle.js_model.specs.declared.ack.Ack.{Ack}
use Rattle.js_model.specs.declared.ack.Ask.{Ask}
use Rattle.js_model.specs.declared.consumer_config.ConsumerConfig.{ConsumerConfig}
use Rattle.js_model.specs.declared.desk.PlaceAt.{PlaceAt}
use Rattle.js_model.specs.declared.event.What.{What}
use Rattle.js_model.specs.declared.event.What.TheVariants as whats
use Rattle.js_model.specs.declared.reply.Reply.{Reply}
use Rattle.js_model.specs.declared.reply.Reply.TheVariants.{Info, Done, Published, Duplicate, Purged, ConsumerInfo, Message, Names, Infos, Confirmed, Silent, Nobody, Refused}
use Rattle.ack_parse.specs.declared.fault.AckFault.{AckFault}
use Rattle.ack_parse.specs.declared.fault.AckFault.TheVariants.{NotAck, BadToken, BadBody, NoMemory}
use Rattle.api_calls.specs.declared.call.ApiCall.TheVariants as calls
use Rattle.api_calls.specs.Names.{name_of as call_name}
use Rattle.js_api.specs.declared.fault.DeskFault.{DeskFault}
use Rattle.js_api.specs.declared.outcome.Became.{Became}
use Rattle.js_api.specs.declared.outcome.Became.TheVariants.{Made, Unsaid, Ticked, Nothing, Broke, Stopped, Gone}
use Rattle.js_api.specs.declared.outcome.Outcome.{Outcome}
use Rattle.js_api.specs.Entries.{DeskEntry}
use Rattle.js_api.specs.Stages.{Then, Gives, Reads, Ending}
use Rattle.js_api.specs.Holding.{Holds}
use Rattle.js_api.specs.OneStream.{IsNamed, IsAsking}

-- ---- calls that are answered

-- by either subject that asks for it
abbrev pub IsMakingConsumer : Bytes → Bytes → ConsumerConfig → Bool → Option Bytes → ℕ → Result Bool DeskFault → List DeskEntry → Type 0
IsMakingConsumer stream consumer config update to now result entries =
    IsAsking (call_name calls.ConsumerCreate) stream (whats.MakeConsumer to consumer config update) now result entries

abbrev pub IsShowingConsumer : Bytes → Bytes → Option Bytes → ℕ → Result Bool DeskFault → List DeskEntry → Type 0
IsShowingConsumer stream consumer to now result entries = IsAsking (call_name calls.ConsumerInfo) stream (whats.ConsumerInfo to consumer) now result entries

abbrev pub IsDroppingConsumer : Bytes → Bytes → Option Bytes → ℕ → Result Bool DeskFault → List DeskEntry → Type 0
IsDroppingConsumer stream consumer to now result entries = IsAsking (call_name calls.ConsumerDelete) stream (whats.DropConsumer to consumer) now result entries

abbrev pub IsNamingConsumers : Bytes → ℕ → Option Bytes → ℕ → Result Bool DeskFault → List DeskEntry → Type 0
IsNamingConsumers stream offset to now result entries = IsAsking (call_name calls.ConsumerNames) stream (whats.ConsumerNames to offset) now result entries

abbrev pub IsListingConsumers : Bytes → ℕ → Option Bytes → ℕ → Result Bool DeskFault → List DeskEntry → Type 0
IsListingConsumers stream offset to now result entries = IsAsking (call_name calls.ConsumerList) stream (whats.ConsumerList to offset) now result entries

-- ---- what only the stream answers

-- The stream took it. It refuses what comes after it was dropped, and a question whose consumer is not there reaches nobody.
abbrev pub is_heard : Reply → Bool
is_heard (Info info) = true
is_heard Done = true
is_heard (Published n) = true
is_heard (Duplicate n) = true
is_heard (Purged n) = true
is_heard (ConsumerInfo info) = true
is_heard (Message m) = true
is_heard (Names total list) = true
is_heard (Infos total list) = true
is_heard Confirmed = true
is_heard Silent = true
is_heard Nobody = false
is_heard (Refused e) = false

-- whether somebody took it, by what became of the hold. A stream whose hold broke is there
abbrev pub IsHeard : Became → Result Bool DeskFault → List DeskEntry → Type 0
IsHeard (Made reply) result entries = Gives (is_heard reply) result entries
IsHeard (Unsaid refused) result entries = ⊥
IsHeard Ticked result entries = ⊥
IsHeard Nothing result entries = ⊥
IsHeard (Broke stream) result entries = Gives true result entries
IsHeard (Stopped stream) result entries = Gives true result entries
IsHeard Gone result entries = Gives false result entries

-- a hold on the place that was found
pub record IsToldAt (what : What) (now : ℕ) (at : PlaceAt) (result : Result Bool DeskFault) (entries : List DeskEntry) : Type 0 where
  pub outcome : Outcome
  pub holds : Holds at what now outcome entries
  pub ends : Ending outcome.fault (IsHeard outcome.became) result []

-- the stream of this name is told, and nobody is if there is none
abbrev pub IsTold : Bytes → What → ℕ → Result Bool DeskFault → List DeskEntry → Type 0
IsTold stream what now result entries = IsNamed stream (Gives false) (IsToldAt what now) result entries

-- both texts were read as names
abbrev pub are_names : Result Bytes NameFault → Result Bytes NameFault → Bool
are_names (Ok stream) (Ok consumer) = true
are_names (Ok stream) (Err fault) = false
are_names (Err fault) consumer = false

-- the texts are names, or they are those of no stream or consumer, and are not looked up
abbrev pub IsPullingBy : Bool → Bytes → Bytes → Option Ask → Option Bytes → ℕ → Result Bool DeskFault → List DeskEntry → Type 0
IsPullingBy named stream consumer ask to now result entries =
    MatchBool named (IsTold stream (whats.Pull to consumer ask) now result entries) (Gives false result entries)

-- a question for messages. Its texts are read as names first
abbrev pub IsPulling : Bytes → Bytes → Option Ask → Option Bytes → ℕ → Result Bool DeskFault → List DeskEntry → Type 0
IsPulling stream consumer ask to now result entries =
    Then (Reads (are_names (name_of stream) (name_of consumer))) (λ named. IsPullingBy named stream consumer ask to now) result entries

-- An acknowledgement, as it was read. One whose body is of no form is taken and does nothing; one whose subject is wrong reaches nobody. What is read is
-- never that memory ran out.
abbrev pub IsAcknowledging : Result Ack AckFault → Option Bytes → ℕ → Result Bool DeskFault → List DeskEntry → Type 0
IsAcknowledging (Ok ack) to now result entries = IsTold ack.stream (whats.Ack to ack) now result entries
IsAcknowledging (Err NotAck) to now result entries = Gives false result entries
IsAcknowledging (Err (BadToken place)) to now result entries = Gives false result entries
IsAcknowledging (Err BadBody) to now result entries = Gives true result entries
IsAcknowledging (Err NoMemory) to now result entries = ⊥
