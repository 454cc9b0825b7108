-- Calls of the JetStream API on one stream: it is looked up by its name, a hold on its place follows, and what became of that decides the rest.
use Rattle.std.specs.Prelude.{◌≡◌, ℕ, Bool, true, false, not, List, [], ◌∷◌, ◌++◌, Option, Some, None, MatchOption, Result, Err, if◌then◌else◌}
use Rattle.js_base.specs.Bytes.{Bytes}
use Rattle.js_base.specs.declared.out.Out.{Out}
use Rattle.js_base.specs.declared.out.ApiError.{ApiError}
use Rattle.js_model.specs.declared.stream_config.StreamConfig.{StreamConfig}
use Rattle.js_model.specs.declared.event.GetBy.{GetBy}
use Rattle.js_model.specs.declared.event.What.{What}
use Rattle.js_model.specs.declared.event.What.TheVariants as whats
use Rattle.js_model.specs.declared.reply.Reply.{Reply}
use Rattle.js_model.specs.declared.reply.Reply.TheVariants.{Info, Done, Published, Duplicate, Purged, ConsumerInfo, Message, Names, Infos, Confirmed, Silent, Nobody, Refused}
use Rattle.js_model.specs.declared.desk.PlaceAt.{PlaceAt}
use Rattle.js_model.specs.Proper.{reply_of}
use Rattle.js_model.specs.Refusals.{no_stream, store_fault, stream_stopped}
use Rattle.js_model.specs.Catalog as catalog
use Rattle.api_calls.specs.declared.call.ApiCall.TheVariants as calls
use Rattle.api_calls.specs.Names.{name_of}
use Rattle.api_replies.specs.declared.reply.ApiReply.{ApiReply}
use Rattle.api_replies.specs.declared.reply.ApiReply.TheVariants as replies
use Rattle.api_replies.specs.Replies.{reply_text}
use Rattle.js_api.specs.declared.fault.DeskFault.{DeskFault}
use Rattle.js_api.specs.declared.fault.DeskFault.TheVariants as faults
use Rattle.js_api.specs.declared.outcome.Became.{Became}
use Rattle.js_api.specs.declared.outcome.Became.TheVariants.{Made, Unsaid, Ticked, Nothing, Broke, Stopped, Gone}
use Rattle.js_api.specs.declared.outcome.Outcome.{Outcome}
use Rattle.js_api.specs.Entries.{DeskEntry, Looked}
use Rattle.js_api.specs.Stages.{Then, Gives, LooksUp, Sends, Ending}
use Rattle.js_api.specs.Holding.{Holds}
use Rattle.js_api.specs.Outputs.{sent_text}

-- ---- the server's own answers

-- the answer to a reply subject, if there is one
abbrev pub answer : Option Bytes → ApiReply → List Out
answer to reply = sent_text to (Some (reply_text reply))

-- the refusal of the call of this name
abbrev pub refusal : Bytes → Option Bytes → ApiError → List Out
refusal name to e = answer to (replies.Refused name e)

-- the server answers so, and the API took the call
abbrev pub Answers : List Out → Result Bool DeskFault → List DeskEntry → Type 0
Answers outs result entries = Then (Sends outs) (λ _. Gives true) result entries

-- ---- what a reply says of the catalog, and of who took the call

abbrev pub is_info : Reply → Bool
is_info (Info info) = true
is_info Done = false
is_info (Published n) = false
is_info (Duplicate n) = false
is_info (Purged n) = false
is_info (ConsumerInfo info) = false
is_info (Message m) = false
is_info (Names total list) = false
is_info (Infos total list) = false
is_info Confirmed = false
is_info Silent = false
is_info Nobody = false
is_info (Refused e) = false

abbrev pub is_done : Reply → Bool
is_done (Info info) = false
is_done Done = true
is_done (Published n) = false
is_done (Duplicate n) = false
is_done (Purged n) = false
is_done (ConsumerInfo info) = false
is_done (Message m) = false
is_done (Names total list) = false
is_done (Infos total list) = false
is_done Confirmed = false
is_done Silent = false
is_done Nobody = false
is_done (Refused e) = false

-- somebody took it
abbrev pub is_taken : Reply → Bool
is_taken (Info info) = true
is_taken Done = true
is_taken (Published n) = true
is_taken (Duplicate n) = true
is_taken (Purged n) = true
is_taken (ConsumerInfo info) = true
is_taken (Message m) = true
is_taken (Names total list) = true
is_taken (Infos total list) = true
is_taken Confirmed = true
is_taken Silent = true
is_taken Nobody = false
is_taken (Refused e) = true

-- ---- a hold on the stream's place

-- the stream answered, or the server answers why it did not
abbrev pub IsEnded : Bytes → Option Bytes → Became → Result Bool DeskFault → List DeskEntry → Type 0
IsEnded name to (Made reply) result entries = Gives (is_taken reply) result entries
IsEnded name to (Unsaid refused) result entries = ⊥
IsEnded name to Ticked result entries = ⊥
IsEnded name to Nothing result entries = ⊥
IsEnded name to (Broke stream) result entries = Answers (refusal name to store_fault) result entries
IsEnded name to (Stopped stream) result entries = Answers (refusal name to stream_stopped) result entries
IsEnded name to Gone result entries = Answers (refusal name to no_stream) result entries

-- a hold, then what became of it makes of the catalog, and the end of the call
pub record IsOnStream (name : Bytes) (at : PlaceAt) (what : What) (now : ℕ) (cataloged : Became → List DeskEntry) (result : Result Bool DeskFault) (entries : List DeskEntry) : Type 0 where
  pub outcome : Outcome
  pub held : List DeskEntry
  pub ended : List DeskEntry
  pub entries_are : entries ≡ held ++ (cataloged outcome.became ++ ended)
  pub holds : Holds at what now outcome held
  pub ends : Ending outcome.fault (IsEnded name (reply_of what) outcome.became) result ended

-- ---- what becomes of the catalog, within its one turn

-- the catalog stays as it is
abbrev pub unchanged : Became → List DeskEntry
unchanged became = []

abbrev pub removed : PlaceAt → Bool → List DeskEntry
removed at dropped = Looked true (catalog.Remove at.place dropped) catalog.Done ∷ []

abbrev pub stopped : PlaceAt → List DeskEntry
stopped at = Looked true (catalog.Stop at.place) catalog.Done ∷ []

abbrev pub kept : PlaceAt → Bool → List DeskEntry
kept at new = Looked true (catalog.Keep at.place new) catalog.Done ∷ []

-- a place that was taken for a stream is free again unless the stream was made; it is stopped if the hold broke or it was stopped before
abbrev pub free_unless_made : PlaceAt → Became → List DeskEntry
free_unless_made at (Made reply) = if is_info reply then [] else removed at false
free_unless_made at (Unsaid refused) = if refused then removed at false else []
free_unless_made at Ticked = removed at false
free_unless_made at Nothing = removed at false
free_unless_made at (Broke stream) = stopped at
free_unless_made at (Stopped stream) = stopped at
free_unless_made at Gone = removed at false

-- a stream that was changed has its new subjects, and any other its old ones; with both lists it is stopped if the hold broke
abbrev pub keep_subjects : PlaceAt → Became → List DeskEntry
keep_subjects at (Made reply) = kept at (is_info reply)
keep_subjects at (Unsaid refused) = kept at (not refused)
keep_subjects at Ticked = kept at false
keep_subjects at Nothing = kept at false
keep_subjects at (Broke stream) = stopped at
keep_subjects at (Stopped stream) = kept at false
keep_subjects at Gone = kept at false

-- the place of a stream that was dropped is free; it is stopped if the hold broke
abbrev pub free_if_dropped : PlaceAt → Became → List DeskEntry
free_if_dropped at (Made reply) = if is_done reply then removed at true else []
free_if_dropped at (Unsaid refused) = if refused then [] else removed at true
free_if_dropped at Ticked = []
free_if_dropped at Nothing = []
free_if_dropped at (Broke stream) = stopped at
free_if_dropped at (Stopped stream) = []
free_if_dropped at Gone = []

-- ---- a stream by its name

-- it is looked up, and the call goes on by whether it is there
abbrev pub IsNamed : {X : Type 0} → Bytes → (Result X DeskFault → List DeskEntry → Type 0) → (PlaceAt → Result X DeskFault → List DeskEntry → Type 0) → Result X DeskFault → List DeskEntry → Type 0
IsNamed stream Absent Present result entries =
    Then (LooksUp (catalog.ByName stream)) (λ found given more. MatchOption found (Absent given more) (λ at. Present at given more)) result entries

-- there is no stream of this name
abbrev pub IsAbsent : Bytes → Option Bytes → Result Bool DeskFault → List DeskEntry → Type 0
IsAbsent name to result entries = Answers (refusal name to no_stream) result entries

-- memory ran out in the catalog, which is as it was
abbrev pub IsShort : {X : Type 0} → Result X DeskFault → List DeskEntry → Type 0
IsShort result entries = (result ≡ Err faults.NoMemory) × (entries ≡ [])

-- ---- making a stream

-- the place that was taken for it, or why none was
abbrev pub GoesOnAdded : StreamConfig → Option Bytes → ℕ → catalog.CatTold → Result Bool DeskFault → List DeskEntry → Type 0
GoesOnAdded config to now (catalog.At (Some at)) result entries =
    IsOnStream (name_of calls.StreamCreate) at (whats.Make to config) now (free_unless_made at) result entries
GoesOnAdded config to now (catalog.At None) result entries = ⊥
GoesOnAdded config to now (catalog.Refused e) result entries = Answers (refusal (name_of calls.StreamCreate) to e) result entries
GoesOnAdded config to now catalog.NoMemory result entries = IsShort result entries
GoesOnAdded config to now catalog.Done result entries = ⊥

-- in the same turn of the catalog a place is taken for it
pub record IsAdding {X : Type 0} (stream : Bytes) (config : StreamConfig) (goes_on : catalog.CatTold → Result X DeskFault → List DeskEntry → Type 0) (result : Result X DeskFault) (entries : List DeskEntry) : Type 0 where
  pub added : catalog.CatTold
  pub more : List DeskEntry
  pub entries_are : entries ≡ Looked true (catalog.Add stream config.subjects) added ∷ more
  pub went_on : goes_on added result more

-- a stream that is there answers whether it has this configuration
abbrev pub IsCreating : Bytes → StreamConfig → Option Bytes → ℕ → Result Bool DeskFault → List DeskEntry → Type 0
IsCreating stream config to now result entries =
    IsNamed stream (IsAdding stream config (GoesOnAdded config to now))
    (λ at. IsOnStream (name_of calls.StreamCreate) at (whats.Make to config) now unchanged) result entries

-- ---- changing a stream

abbrev pub GoesOnChanged : PlaceAt → StreamConfig → Option Bytes → ℕ → catalog.CatTold → Result Bool DeskFault → List DeskEntry → Type 0
GoesOnChanged at config to now catalog.Done result entries =
    IsOnStream (name_of calls.StreamUpdate) at (whats.Change to config) now (keep_subjects at) result entries
GoesOnChanged at config to now (catalog.Refused e) result entries = Answers (refusal (name_of calls.StreamUpdate) to e) result entries
GoesOnChanged at config to now catalog.NoMemory result entries = IsShort result entries
GoesOnChanged at config to now (catalog.At found) result entries = ⊥

-- in the same turn of the catalog the new subjects stand beside the old ones, and then the stream is changed
pub record IsChanging (config : StreamConfig) (to : Option Bytes) (now : ℕ) (at : PlaceAt) (result : Result Bool DeskFault) (entries : List DeskEntry) : Type 0 where
  pub changed : catalog.CatTold
  pub more : List DeskEntry
  pub entries_are : entries ≡ Looked true (catalog.Change at.place config.subjects) changed ∷ more
  pub went_on : GoesOnChanged at config to now changed result more

abbrev pub IsUpdating : Bytes → StreamConfig → Option Bytes → ℕ → Result Bool DeskFault → List DeskEntry → Type 0
IsUpdating stream config to now result entries =
    IsNamed stream (IsAbsent (name_of calls.StreamUpdate) to) (IsChanging config to now) result entries

-- ---- what a stream is asked

-- the stream is asked so, and its place answers
abbrev pub IsAsking : Bytes → Bytes → What → ℕ → Result Bool DeskFault → List DeskEntry → Type 0
IsAsking name stream what now result entries =
    IsNamed stream (IsAbsent name (reply_of what)) (λ at. IsOnStream name at what now unchanged) result entries

abbrev pub IsShowing : Bytes → Option Bytes → ℕ → Result Bool DeskFault → List DeskEntry → Type 0
IsShowing stream to now result entries = IsAsking (name_of calls.StreamInfo) stream (whats.StreamInfo to) now result entries

abbrev pub IsDeleting : Bytes → Option Bytes → ℕ → Result Bool DeskFault → List DeskEntry → Type 0
IsDeleting stream to now result entries =
    IsNamed stream (IsAbsent (name_of calls.StreamDelete) to)
    (λ at. IsOnStream (name_of calls.StreamDelete) at (whats.Drop to) now (free_if_dropped at)) result entries

-- ---- its messages

abbrev pub IsPurging : Bytes → Bytes → Option ℕ → Option ℕ → Option Bytes → ℕ → Result Bool DeskFault → List DeskEntry → Type 0
IsPurging stream pattern below keep to now result entries =
    IsAsking (name_of calls.StreamPurge) stream (whats.Purge to pattern below keep) now result entries

abbrev pub IsReading : Bytes → GetBy → Option Bytes → ℕ → Result Bool DeskFault → List DeskEntry → Type 0
IsReading stream by to now result entries = IsAsking (name_of calls.StreamMsgGet) stream (whats.MessageGet to by) now result entries

abbrev pub IsErasing : Bytes → ℕ → Option Bytes → ℕ → Result Bool DeskFault → List DeskEntry → Type 0
IsErasing stream seq to now result entries = IsAsking (name_of calls.StreamMsgDelete) stream (whats.Delete to seq) now result entries
