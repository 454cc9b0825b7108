-- Calls of the JetStream API over all streams: each place with a stream is held once, in order, and the answer is put together from what they told.
use Rattle.std.specs.Prelude.{◌≡◌, ◌⊎◌, ◌++◌, ℕ, nat_lt, Bool, true, false, List, [], ◌∷◌, length, map, filter, take, drop, sum_by, Option, Some, None, Result, Ok, Err, if◌then◌else◌}
use Rattle.std.specs.List.{list_any, flat_map}
use Rattle.js_base.specs.Bytes.{Bytes}
use Rattle.js_base.specs.Subjects.{tokens, meets}
use Rattle.js_base.specs.declared.out.Out.{Out}
use Rattle.js_base.specs.declared.out.ApiError.{ApiError}
use Rattle.js_model.specs.declared.event.What.TheVariants as whats
use Rattle.js_model.specs.declared.reply.Reply.{Reply}
use Rattle.js_model.specs.declared.reply.Reply.TheVariants.{Info, Done, Published, Duplicate, Purged, ConsumerInfo, Message, Names, Infos, Confirmed, Silent, Nobody, Refused}
use Rattle.js_model.specs.declared.reply.StreamInfo.{StreamInfo}
use Rattle.js_model.specs.declared.desk.PlaceAt.{PlaceAt}
use Rattle.js_model.specs.Consumers.{is_before}
use Rattle.js_model.specs.Limits.{last_place, names_a_page, infos_a_page}
use Rattle.js_model.specs.Refusals.{store_fault, stream_stopped}
use Rattle.js_model.specs.Catalog as catalog
use Rattle.api_replies.specs.declared.reply.ApiReply.TheVariants as replies
use Rattle.js_api.specs.declared.fault.DeskFault.{DeskFault}
use Rattle.js_api.specs.declared.fault.DeskFault.TheVariants as faults
use Rattle.js_api.specs.declared.outcome.Became.{Became}
use Rattle.js_api.specs.declared.outcome.Became.TheVariants.{Made, Unsaid, Ticked, Nothing, Broke, Stopped, Gone}
use Rattle.js_api.specs.declared.outcome.Outcome.{Outcome}
use Rattle.js_api.specs.Entries.{DeskEntry}
use Rattle.js_api.specs.Stages.{LooksUp}
use Rattle.js_api.specs.Holding.{Holds}
use Rattle.js_api.specs.OneStream.{answer, refusal, Answers}

-- ---- the walk

-- a place that was visited, and what its stream came to when it was asked for its information
pub record Visit : Type 0 where
  pub at : PlaceAt
  pub outcome : Outcome

-- the look-ups begin after the last place
abbrev pub behind : Option PlaceAt → ℕ
behind None = last_place
behind (Some at) = at.place

-- the place that was found is a further one, and not the first again
abbrev pub is_further : Option PlaceAt → Option PlaceAt → Bool
is_further last None = false
is_further None (Some at) = true
is_further (Some last) (Some at) = nat_lt last.place at.place

-- the volume of a place failed, or it was stopped before
abbrev pub failure : Became → Option ApiError
failure (Made reply) = None
failure (Unsaid refused) = None
failure Ticked = None
failure Nothing = None
failure (Broke stream) = Some store_fault
failure (Stopped stream) = Some stream_stopped
failure Gone = None

-- the walk stops: the call ends by this fault, or by this failure
pub record Stops (visited : List Visit) (result : Result (Option ApiError) DeskFault) (entries : List DeskEntry) (told : Result (Option ApiError) DeskFault) : Type 0 where
  pub none : visited ≡ []
  pub result_is : result ≡ told
  pub entries_are : entries ≡ []

-- the walk ends: no further place is found, the look-up cannot be made, or memory runs out for what was told
abbrev pub WalkEnds : Option PlaceAt → Result (Option ApiError) DeskFault → List DeskEntry → Type 0
WalkEnds last result entries =
    ((found : Option PlaceAt) × (is_further last found ≡ false) × LooksUp (catalog.NextUsed (behind last)) (Ok found) entries × (result ≡ Ok None))
    ⊎ (((fault : DeskFault) × LooksUp (catalog.NextUsed (behind last)) (Err fault) entries × (result ≡ Err fault))
    ⊎ ((entries ≡ []) × (result ≡ Err faults.NoMemory)))

-- after a visit the walk stops if the call ended in it or there is such a failure, and else it goes on
abbrev pub WalksOn : List Visit → Option DeskFault → Option ApiError → (Result (Option ApiError) DeskFault → List DeskEntry → Type 0) → Result (Option ApiError) DeskFault → List DeskEntry → Type 0
WalksOn more (Some fault) failed GoesFurther result entries = Stops more result entries (Err fault)
WalksOn more None (Some e) GoesFurther result entries = Stops more result entries (Ok (Some e))
WalksOn more None None GoesFurther result entries = GoesFurther result entries

-- The used places in order after the last one: all of them, or up to one in which the call ended, or which failed, by which the call is refused.
abbrev pub Walks : ℕ → Option PlaceAt → List Visit → Result (Option ApiError) DeskFault → List DeskEntry → Type 0
Walks now last [] result entries = WalkEnds last result entries
Walks now last (visit ∷ more) result entries =
    (looked held rest : List DeskEntry)
    × (entries ≡ looked ++ (held ++ rest))
    × LooksUp (catalog.NextUsed (behind last)) (Ok (Some visit.at)) looked
    × (is_further last (Some visit.at) ≡ true)
    × Holds visit.at (whats.StreamInfo None) now visit.outcome held
    × WalksOn more visit.outcome.fault (failure visit.outcome.became) (Walks now (Some visit.at) more) result rest

-- ---- what they told

abbrev pub info_in : Reply → List StreamInfo
info_in (Info info) = info ∷ []
info_in Done = []
info_in (Published n) = []
info_in (Duplicate n) = []
info_in (Purged n) = []
info_in (ConsumerInfo info) = []
info_in (Message m) = []
info_in (Names total list) = []
info_in (Infos total list) = []
info_in Confirmed = []
info_in Silent = []
info_in Nobody = []
info_in (Refused e) = []

-- the information that a visit gave; a stream that is gone gave none
abbrev pub info_told : Became → List StreamInfo
info_told (Made reply) = info_in reply
info_told (Unsaid refused) = []
info_told Ticked = []
info_told Nothing = []
info_told (Broke stream) = []
info_told (Stopped stream) = []
info_told Gone = []

abbrev pub infos_of : List Visit → List StreamInfo
infos_of visits = flat_map (λ (visit : Visit). info_told visit.outcome.became) visits

-- ---- the call

-- the answer by what was told, or the refusal
abbrev pub answer_or : (List StreamInfo → List Out) → Bytes → Option Bytes → List Visit → Option ApiError → List Out
answer_or answering name to visits None = answering (infos_of visits)
answer_or answering name to visits (Some e) = refusal name to e

abbrev pub GoesOnWalked : (Option ApiError → List Out) → Result (Option ApiError) DeskFault → Result Bool DeskFault → List DeskEntry → Type 0
GoesOnWalked answering (Ok failed) result entries = Answers (answering failed) result entries
GoesOnWalked answering (Err fault) result entries = (result ≡ Err fault) × (entries ≡ [])

-- all streams are asked, and then the server answers
pub record IsOverAll (name : Bytes) (to : Option Bytes) (now : ℕ) (answering : List StreamInfo → List Out) (result : Result Bool DeskFault) (entries : List DeskEntry) : Type 0 where
  pub visits : List Visit
  pub told : Result (Option ApiError) DeskFault
  pub walked : List DeskEntry
  pub ended : List DeskEntry
  pub entries_are : entries ≡ walked ++ ended
  pub walks : Walks now None visits told walked
  pub ends : GoesOnWalked (answer_or answering name to visits) told result ended

-- ---- the answers

-- how many streams and consumers there are, and the sizes of the stored messages together
abbrev pub account : Option Bytes → List StreamInfo → List Out
account to infos =
    answer to (replies.AccountInfo (sum_by (λ (i : StreamInfo). i.consumers) infos) (sum_by (λ (i : StreamInfo). i.bytes) infos) (length infos))

-- the informations with one more, at its place in the order of names
abbrev pub with_info : List StreamInfo → StreamInfo → List StreamInfo
with_info [] new = new ∷ []
with_info (i ∷ is) new = if is_before i.config.name new.config.name then i ∷ with_info is new else new ∷ i ∷ is

abbrev pub in_order : List StreamInfo → List StreamInfo
in_order [] = []
in_order (i ∷ is) = with_info (in_order is) i

-- a stream has a subject that overlaps the pattern, if there is one
abbrev pub is_listed : Option Bytes → StreamInfo → Bool
is_listed None i = true
is_listed (Some pattern) i = list_any (λ subject. meets (tokens subject) (tokens pattern)) i.config.subjects

abbrev pub listed : Option Bytes → List StreamInfo → List StreamInfo
listed pattern infos = in_order (filter (is_listed pattern) infos)

-- at most so many of a list, from an offset in it on
abbrev pub page : {X : Type 0} → ℕ → ℕ → List X → List X
page most offset list = take most (drop offset list)

abbrev pub names : Option Bytes → ℕ → Option Bytes → List StreamInfo → List Out
names to offset pattern infos =
    answer to (replies.StreamNames offset (page names_a_page offset (map (λ (i : StreamInfo). i.config.name) (listed pattern infos))) (length (listed pattern infos)))

abbrev pub informations : Option Bytes → ℕ → Option Bytes → List StreamInfo → List Out
informations to offset pattern infos =
    answer to (replies.StreamList offset (page infos_a_page offset (listed pattern infos)) (length (listed pattern infos)))
