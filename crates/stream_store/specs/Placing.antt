-- Where messages that wait for a commit are going to lie, and where one more would go.
use Rattle.std.specs.Prelude.{◌≤◌, ◌<◌, ◌+◌, ◌^◌, ℕ, Bool, List, Option, Some, None, length, option_map, is_some}
use Rattle.effects.specs.declared.effect.Effect.{Effect}
use Rattle.effects.specs.declared.effect.Effect.TheVariants.{MakeStream, ChangeStream, DropStream, PutHere, Skip, Remove, MakeConsumer, DropConsumer, Deliver, Acked, Due, GivenUp, Now}
use Rattle.js_base.specs.declared.spot.Spot.{Spot}
use Rattle.op_records.specs.Blocks.{spelled_message}
use Rattle.block_table.specs.declared.placing.Placing.{Placing}
use Rattle.block_table.specs.Blocks.{Blocks}
use Rattle.block_table.specs.Placings.{place, restarted}
use Rattle.block_table.specs.Rooms.{in_use}
use Rattle.block_writing.specs.Planning.{Planned, begun, message_by, planned, spots_in}
use Rattle.stream_store.specs.Steps.{batch_steps, with_steps}

-- the plan of these changes, None if a message of theirs has no place
abbrev pub plan_of : Blocks → List Effect → Option Planned
plan_of b es = planned b es (Some (begun b))

-- each message of theirs has a place
abbrev pub can_place : Blocks → List Effect → Bool
can_place b es = is_some (plan_of b es)

-- where the next message goes behind a change
abbrev pub placing_then : Blocks → Placing → Effect → Option Placing
placing_then b p (MakeStream incarnation made config) = Some (restarted p)
placing_then b p (ChangeStream config) = Some p
placing_then b p DropStream = Some (restarted p)
placing_then b p (PutHere seq at id subject headers payload) =
    option_map (λ r. r.1) (place b (length (spelled_message (message_by seq at subject headers payload))) p)
placing_then b p (Skip seq at id) = Some p
placing_then b p (Remove low high) = Some p
placing_then b p (MakeConsumer name made config cursor picks) = Some p
placing_then b p (DropConsumer name) = Some p
placing_then b p (Deliver name seq count due dseq) = Some p
placing_then b p (Acked name low high) = Some p
placing_then b p (Due name seq due) = Some p
placing_then b p (GivenUp name moment) = Some p
placing_then b p (Now moment) = Some p

-- where it goes behind these changes
abbrev pub placing_behind : Blocks → List Effect → Option Placing
placing_behind b es = option_map (λ made. made.placing) (plan_of b es)

abbrev pub spot_by : Blocks → ℕ → Option Placing → Option Spot
spot_by b len None = None
spot_by b len (Some p) = option_map (λ r. r.0) (place b len p)

-- where a message of so many bytes goes behind these changes, if there is a place
abbrev pub spot_behind : Blocks → List Effect → ℕ → Option Spot
spot_behind b es len = spot_by b len (placing_behind b es)

-- a spot that a message may have: behind the files of the logs, and it ends below 2^32
pub record IsMessageSpot (spot : Spot) : Type 0 where
  pub behind_logs : 2 ≤ spot.file
  pub ends : spot.at + spot.len < 2 ^ 32

abbrev pub has_room : Blocks → List Effect → ℕ → Bool
has_room b es len = is_some (spot_behind b es len)

abbrev pub used_by : Blocks → Option Placing → ℕ
used_by b None = 0
used_by b (Some p) = in_use b p

-- how many files are blocks, or are begun by these changes
abbrev pub used_behind : Blocks → List Effect → ℕ
used_behind b es = used_by b (placing_behind b es)

-- where messages lie once these changes are committed
abbrev pub blocks_by : Blocks → List Effect → Option Planned → Blocks
blocks_by b es None = b
blocks_by b es (Some made) = with_steps (batch_steps es (spots_in made.records)) b

abbrev pub blocks_then : Blocks → List Effect → Blocks
blocks_then b es = blocks_by b es (plan_of b es)
