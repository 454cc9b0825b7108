-- What stands at a place, as its callers see it.
use Rattle.std.specs.Prelude.{ℕ, Option, None}
use Rattle.js_model.specs.declared.stream.State.{State}
use Rattle.js_model.specs.declared.stream.State.TheVariants.{Vacant}

-- where a volume stands: how often it failed, how often it refused room, how many of its calls it had answered, and the generation of its log; each is 0 if
-- nothing is told of it
pub record VolumeAt : Type 0 where
  pub faults : ℕ
  pub refusals : ℕ
  pub moment : ℕ
  pub generation : ℕ

-- A place: its stream or none; how many messages count against the blocks of its store; the count of faults of its volume as it stopped, if it
-- is stopped; and where its volume stands.
pub record PlaceIn : Type 0 where
  pub state : State
  pub stored : ℕ
  pub stopped : Option ℕ
  pub volume : VolumeAt

-- where a volume stands of which nothing is told
abbrev pub untold : VolumeAt
untold = record { faults = 0; refusals = 0; moment = 0; generation = 0 }

-- a place in memory, where there is room for each message
abbrev pub in_memory : State → PlaceIn
in_memory state = record { state = state; stored = 0; stopped = None; volume = untold }

-- a place in memory that never had a stream
abbrev pub vacant_place : PlaceIn
vacant_place = in_memory (Vacant 0)
