-- What a plan of a commit has.
use Rattle.std.specs.Prelude.{◌≡◌, ◌≤◌, ◌++◌, ◌∷◌, [], List, Some, None, IfSome, length}
use Rattle.std.specs.List.{flat_map}
use Rattle.std.specs.Option.{IsSomeAnd}
use Rattle.js_base.specs.Bytes.{Bytes}
use Rattle.js_base.specs.declared.spot.Spot.{Spot}
use Rattle.js_model.specs.declared.stream.Message.{Message}
use Rattle.effects.specs.declared.effect.Effect.{Effect}
use Rattle.op_records.specs.Blocks.{spelled_message}
use Rattle.op_records.specs.Spelling.{spelled_record}
use Rattle.op_records.specs.declared.record.Record.TheVariants.{Put}
use Rattle.block_table.specs.declared.placing.Placing.{Placing}
use Rattle.block_table.specs.Blocks.{Blocks}
use Rattle.block_table.specs.Placings.{place}
use Rattle.block_writing.specs.declared.commit.Plan.{Plan}
use Rattle.block_writing.specs.Planning.{Planned, begun, planned, planned_one, spots_in, with_message}

-- the records as the bytes of a batch, the spots of their messages, and the runs
pub record Has (plan : Plan) (made : Planned) : Type 0 where
  pub batch : plan.batch.items ≡ flat_map spelled_record made.records
  pub spots : plan.spots.items ≡ spots_in made.records
  pub runs : plan.runs.items ≡ made.runs

-- the plan of these changes
pub record IsPlan (b : Blocks) (es : List Effect) (plan : Plan) : Type 0 where
  pub made : Planned
  pub made_is : planned b es (Some (begun b)) ≡ Some made
  pub has : Has plan made

-- a plan that is being made, and where the next messages go
pub record IsSoFar (so_far : Planned) (plan : Plan) (p : Placing) : Type 0 where
  pub has : Has plan so_far
  pub placing : so_far.placing ≡ p

-- a message was added at the next spot
pub record IsPut (b : Blocks) (id : Bytes) (m : Message) (old new : Plan) (p q : Placing) : Type 0 where
  pub spot : Spot
  pub placed : place b (length (spelled_message m)) p ≡ Some (spot, q)
  pub batch : new.batch.items ≡ old.batch.items ++ spelled_record (Put m.seq m.at id spot)
  pub spots : new.spots.items ≡ old.spots.items ++ spot ∷ []
  pub runs : new.runs.items ≡ with_message old.runs.items spot (spelled_message m)

-- a change was added: it is planned behind what had been planned
pub record IsAdded (b : Blocks) (e : Effect) (old new : Plan) (p q : Placing) : Type 0 where
  pub step : (so_far : Planned) → IsSoFar so_far old p → IsSomeAnd (planned_one b so_far e) (λ next. IsSoFar next new q)

-- the change stores a message, and there is no spot for it
pub record HasNoSpot (b : Blocks) (e : Effect) (p : Placing) : Type 0 where
  pub none : (so_far : Planned) → so_far.placing ≡ p → planned_one b so_far e ≡ None

-- the block being written, if there is one, is in a file that a record can tell
abbrev pub WritesBlock : Placing → Type 0
WritesBlock p = IfSome p.writing (λ k. k.file ≤ 65535)
