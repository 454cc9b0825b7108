-- All streams are asked for their informations, in the order of their places.
use Rattle.std.specs.Prelude.{◌≡◌, ◌≤◌, ◌+◌, ◌++◌, ℕ, List, length, Option, None, Some, option_map, Result, Ok, Err, if◌then◌else◌}
use Rattle.std.specs.List.{All}
use Rattle.js_base.specs.declared.out.ApiError.{ApiError}
use Rattle.js_model.specs.declared.event.What.TheVariants as whats
use Rattle.js_model.specs.declared.reply.StreamInfo.{StreamInfo}
use Rattle.js_model.specs.declared.desk.PlaceAt.{PlaceAt}
use Rattle.place_engine.specs.Shown.{IsSoundInfo}
use Rattle.js_api.specs.declared.fault.DeskFault.{DeskFault}
use Rattle.js_api.specs.declared.outcome.Outcome.{Outcome}
use Rattle.js_api.specs.Entries.{DeskEntry}
use Rattle.js_api.specs.Holding.{Holds}
use Rattle.js_api.specs.AllStreams.{Visit, Walks, failure, infos_of, info_told, is_further}
use Rattle.desk_ground.specs.declared.reason.Reason.{Reason}
use Rattle.desk_ground.specs.Reasons.{error_of}

-- the place that was found, if it is a further one
abbrev pub further : Option PlaceAt → Option PlaceAt → Option PlaceAt
further last found = if is_further last found then found else None

-- by which failure the call is refused, if by any
abbrev pub failing : Result (Option Reason) DeskFault → Result (Option ApiError) DeskFault
failing (Ok reason) = Ok (option_map error_of reason)
failing (Err fault) = Err fault

-- ---- one place

-- what was told of the hold, and which informations stand there after it
abbrev pub IsVisitTold : Result (Option Reason) DeskFault → Outcome → List StreamInfo → List StreamInfo → Type 0
IsVisitTold (Ok None) outcome before after =
    (outcome.fault ≡ None) × (failure outcome.became ≡ None) × (after ≡ before ++ info_told outcome.became)
IsVisitTold (Ok (Some reason)) outcome before after = (outcome.fault ≡ None) × (failure outcome.became ≡ Some (error_of reason))
IsVisitTold (Err fault) outcome before after = outcome.fault ≡ Some fault

-- a place was asked for the information of its stream
pub record IsVisit (at : PlaceAt) (now : ℕ) (result : Result (Option Reason) DeskFault) (before after : List StreamInfo) (entries : List DeskEntry) : Type 0 where
  pub outcome : Outcome
  pub holds : Holds at (whats.StreamInfo None) now outcome entries
  pub told : IsVisitTold result outcome before after

-- ---- all places

-- the informations were added, if all could be asked
abbrev pub AddsInfos : Result (Option Reason) DeskFault → List Visit → List StreamInfo → List StreamInfo → Type 0
AddsInfos (Ok None) visits before after = after ≡ before ++ infos_of visits
AddsInfos (Ok (Some reason)) visits before after = Unit {0}
AddsInfos (Err fault) visits before after = Unit {0}

-- the places after the last one were visited
pub record IsWalk (now : ℕ) (last : Option PlaceAt) (result : Result (Option Reason) DeskFault) (before after : List StreamInfo) (entries : List DeskEntry) : Type 0 where
  pub visits : List Visit
  pub walks : Walks now last visits (failing result) entries
  pub adds : AddsInfos result visits before after

-- ---- the informations

-- up to this place there are at most so many
abbrev pub most_to : Option PlaceAt → ℕ
most_to None = 0
most_to (Some at) = at.place + 1

pub record AreSoundTo (last : Option PlaceAt) (infos : List StreamInfo) : Type 0 where
  pub few : length infos ≤ most_to last
  pub each : All IsSoundInfo infos

-- a visit adds at most one
pub record AddsSound (old new : List StreamInfo) : Type 0 where
  pub few : length new ≤ length old + 1
  pub each : All IsSoundInfo old → All IsSoundInfo new
