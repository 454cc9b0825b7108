-- The laws of what the snapshot of a place may come to: it comes to no more, and what raises that by how much.
use Rattle.std.specs.Prelude.{◌≡◌, ◌≤◌, ◌⊎◌, ◌+◌, ℕ, Bool, false, List, [], length, if◌then◌else◌, Some}
use Rattle.js_model.specs.declared.entry.Delivery.{Delivery}
use Rattle.js_model.specs.declared.event.What.{What}
use Rattle.js_model.specs.declared.stream.State.{State}
use Rattle.js_model.specs.declared.stream.State.TheVariants.{Vacant}
use Rattle.js_model.specs.declared.stream.Stream.{Stream}
use Rattle.js_model.specs.Events.{asks_room}
use Rattle.model_laws.specs.Sound.{IsSound}
use Rattle.effects.specs.declared.durable.Durable.{Durable}
use Rattle.effects.specs.declared.effect.Effect.{Effect}
use Rattle.effects.specs.Durables.{durable_of}
use Rattle.effects.specs.Effects.{event_effects, delivery_effects, settle_effects}
use Rattle.effects.specs.Folding.{fold, fold_all}
use Rattle.effects.specs.Laws.{Leads}
use Rattle.effects.specs.TimeEffects.{time_effects}
use Rattle.record_fold.specs.Entries.{AreOrderedIn}
use Rattle.block_table.specs.Blocks.{Blocks}
use Rattle.block_table.specs.Tables.{IsTable}
use Rattle.durable_checks.specs.Storable.{IsStorable}
use Rattle.state_snapshot.specs.Snapshots.{HasSpots, snapshot_of}
use Rattle.state_snapshot.specs.Spelling.{spelled_snapshot}
use Rattle.snapshot_bound.specs.Asking.{event_counted, event_fixed, event_growth}
use Rattle.snapshot_bound.specs.Bounds.{bound, bound_with, counted, fixed, state_counted}
use Rattle.snapshot_bound.specs.Growth.{AreQuiet, consumers_in, messages_in, record_counted, record_fixed}

-- ---- what it comes to

-- a log whose first batch is the snapshot: 20 bytes of its head, and 10 around the batch
abbrev pub LawCovers : Type 0
LawCovers = (d : Durable) (b : Blocks) → IsStorable d → IsTable b → HasSpots d b → 30 + length (spelled_snapshot (snapshot_of d b)) ≤ bound d

-- ---- what records make of it

-- so much at most is raised: of the part that no count tells, and of the other
pub record Raises (part rest : ℕ) (old new : Durable) : Type 0 where
  pub fixed_is : fixed new ≤ fixed old + part
  pub counted_is : counted new ≤ counted old + rest

-- nothing is raised
pub record RaisesNothing (old new : Durable) : Type 0 where
  pub fixed_is : fixed new ≤ fixed old
  pub counted_is : counted new ≤ counted old

-- A record raises it by no more than is said, and records that do not grow raise nothing. The consumers stand in order of their names, so that a record speaks of
-- one of them.
pub record LawGrowth : Type 0 where
  pub one : (old new : Durable) (e : Effect) → AreOrderedIn old → fold old e ≡ Some new
      → Raises (record_fixed e) (record_counted (messages_in old.body) (consumers_in old.body) e) old new
  pub rest : (old new : Durable) (es : List Effect) → AreOrderedIn old → fold_all es (Some old) ≡ Some new → AreQuiet es → RaisesNothing old new
  pub order : (old new : Durable) (es : List Effect) → AreOrderedIn old → fold_all es (Some old) ≡ Some new → AreOrderedIn new

-- ---- what events and deliveries make of it

-- a state comes to what is fixed of it and what its counts tell
pub record LawParts (state : State) : Type 0 where
  pub whole : bound (durable_of state) ≡ bound_with (fixed (durable_of state)) state
  pub least : (known : ℕ) → fixed (durable_of state) ≤ known → bound (durable_of state) ≤ bound_with known state

-- so much at most is raised
pub record StateRaises (part rest : ℕ) (old new : State) : Type 0 where
  pub fixed_is : fixed (durable_of new) ≤ fixed (durable_of old) + part
  pub counted_is : state_counted new ≤ state_counted old + rest

pub record StateRaisesNothing (old new : State) : Type 0 where
  pub fixed_is : fixed (durable_of new) ≤ fixed (durable_of old)
  pub counted_is : state_counted new ≤ state_counted old

abbrev pub if_room : Bool → ℕ → ℕ
if_room room growth = if room then growth else 0

-- An event raises it by no more than it asks for, and by nothing if it finds no room; a delivery and passing time raise nothing.
pub record LawAsked : Type 0 where
  pub event : (old new : State) (what : What) (now : ℕ) (room : Bool) → IsSound old → Leads old (event_effects old what now room) new
      → StateRaises (if_room room (event_fixed old what)) (if_room room (event_counted old what)) old new
  pub delivery : (old new : State) (now : ℕ) (d : Delivery) → IsSound old → Leads old (delivery_effects old now d new) new → StateRaisesNothing old new
  pub time : (s : Stream) (now : ℕ) → AreQuiet (time_effects s now)
  pub settled : (skipped : List ℕ) (state : State) → AreQuiet (settle_effects skipped state)
  pub quiet : (old new : State) (effects : List Effect) → IsSound old → Leads old effects new → AreQuiet effects → StateRaisesNothing old new
  pub unasked : (state : State) (what : What) → asks_room what ≡ false → event_growth state what ≡ 0
  pub vacant : (i : ℕ) (what : What) (now : ℕ) (room : Bool) → (event_growth (Vacant i) what ≡ 0) ⊎ (room ≡ false) → event_effects (Vacant i) what now room ≡ []
