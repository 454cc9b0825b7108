-- What a commit writes: where each of its messages goes, the runs of bytes that they make, and the records that tell it. By rules of this server's own: all of
-- the messages are placed by the table before the commit, and what it removes is free only after it.
use Rattle.std.specs.Prelude.{ℕ, ◌==◌, if◌then◌else◌, List, [], ◌∷◌, ◌++◌, Option, Some, None, length, option_map}
use Rattle.js_base.specs.Bytes.{Bytes}
use Rattle.js_base.specs.declared.spot.Spot.{Spot}
use Rattle.js_model.specs.declared.stream.Message.{Message}
use Rattle.effects.specs.declared.effect.Effect.{Effect}
use Rattle.effects.specs.declared.effect.Effect.TheVariants.{MakeStream, ChangeStream, DropStream, PutHere, Skip, Remove, MakeConsumer, DropConsumer, Deliver, Acked, Due, GivenUp, Now}
use Rattle.op_records.specs.Blocks.{spelled_message}
use Rattle.op_records.specs.declared.record.Record.{Record}
use Rattle.op_records.specs.declared.record.Record.TheVariants.{Put, Change}
use Rattle.block_table.specs.declared.placing.Placing.{Placing}
use Rattle.block_table.specs.Blocks.{Blocks}
use Rattle.block_table.specs.Placings.{placing, place, restarted}
use Rattle.block_writing.specs.declared.run.Run.{Run}

-- ---- runs

abbrev pub run_at : Spot → Bytes → Run
run_at spot bytes = record { file = spot.file; at = spot.at; bytes = bytes }

abbrev pub with_bytes : Run → Bytes → Run
with_bytes run bytes = record run { bytes = run.bytes ++ bytes }

-- a message more: it goes behind the last run if that is in its file, and else it begins a run
abbrev pub with_message : List Run → Spot → Bytes → List Run
with_message [] spot bytes = run_at spot bytes ∷ []
with_message (run ∷ []) spot bytes = if run.file == spot.file then with_bytes run bytes ∷ [] else run ∷ run_at spot bytes ∷ []
with_message (run ∷ other ∷ runs) spot bytes = run ∷ with_message (other ∷ runs) spot bytes

-- ---- changes

-- the records and the runs so far, and where the next messages go
pub record Planned : Type 0 where
  pub records : List Record
  pub runs : List Run
  pub placing : Placing

-- nothing is planned yet
abbrev pub begun : Blocks → Planned
begun b = record { records = []; runs = []; placing = placing b }

abbrev pub message_by : ℕ → ℕ → Bytes → Bytes → Bytes → Message
message_by seq at subject headers payload = record { seq = seq; at = at; subject = subject; headers = headers; payload = payload }

-- another change, and the messages behind it go where this says
abbrev pub with_change : Planned → Effect → Placing → Planned
with_change so_far e p = record { records = so_far.records ++ Change e ∷ []; runs = so_far.runs; placing = p }

-- a message that was placed
abbrev pub with_put : Planned → Bytes → Message → Spot × Placing → Planned
with_put so_far id m placed = record {
  records = so_far.records ++ Put m.seq m.at id placed.0 ∷ [];
  runs = with_message so_far.runs placed.0 (spelled_message m);
  placing = placed.1;
}

abbrev pub plan_message : Blocks → Planned → Bytes → Message → Option Planned
plan_message b so_far id m = option_map (with_put so_far id m) (place b (length (spelled_message m)) so_far.placing)

-- a message goes to the next spot, if there is one; a stream that is made or dropped goes on in no block; and another change is recorded as it is
abbrev pub planned_one : Blocks → Planned → Effect → Option Planned
planned_one b so_far (MakeStream incarnation made config) = Some (with_change so_far (MakeStream incarnation made config) (restarted so_far.placing))
planned_one b so_far (ChangeStream config) = Some (with_change so_far (ChangeStream config) so_far.placing)
planned_one b so_far DropStream = Some (with_change so_far DropStream (restarted so_far.placing))
planned_one b so_far (PutHere seq at id subject headers payload) =
    plan_message b so_far id (message_by seq at subject headers payload)
planned_one b so_far (Skip seq at id) = Some (with_change so_far (Skip seq at id) so_far.placing)
planned_one b so_far (Remove low high) = Some (with_change so_far (Remove low high) so_far.placing)
planned_one b so_far (MakeConsumer name made config cursor picks) =
    Some (with_change so_far (MakeConsumer name made config cursor picks) so_far.placing)
planned_one b so_far (DropConsumer name) = Some (with_change so_far (DropConsumer name) so_far.placing)
planned_one b so_far (Deliver name seq count due dseq) = Some (with_change so_far (Deliver name seq count due dseq) so_far.placing)
planned_one b so_far (Acked name low high) = Some (with_change so_far (Acked name low high) so_far.placing)
planned_one b so_far (Due name seq due) = Some (with_change so_far (Due name seq due) so_far.placing)
planned_one b so_far (GivenUp name moment) = Some (with_change so_far (GivenUp name moment) so_far.placing)
planned_one b so_far (Now moment) = Some (with_change so_far (Now moment) so_far.placing)

abbrev pub then_planned : Blocks → Option Planned → Effect → Option Planned
then_planned b None e = None
then_planned b (Some so_far) e = planned_one b so_far e

-- one change after the other; None if there is no place for a message
abbrev pub planned : Blocks → List Effect → Option Planned → Option Planned
planned b [] so_far = so_far
planned b (e ∷ es) so_far = planned b es (then_planned b so_far e)

-- where the messages of the records lie, in their order
abbrev pub spots_in : List Record → List Spot
spots_in [] = []
spots_in (Put seq at id spot ∷ rs) = spot ∷ spots_in rs
spots_in (Change e ∷ rs) = spots_in rs
