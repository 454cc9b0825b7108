-- What a commit makes of where messages lie, by a rule of this server's own. What it made can be taken into a table later, step by step.
use Rattle.std.specs.Prelude.{◌≡◌, Bool, true, false, List, [], ◌∷◌, ◌++◌, drop, unwrap_or}
use Rattle.std.specs.List.{list_any}
use Rattle.js_base.specs.declared.spot.Spot.{Spot}
use Rattle.effects.specs.declared.effect.Effect.{Effect}
use Rattle.effects.specs.declared.effect.Effect.TheVariants.{MakeStream, ChangeStream, DropStream, PutHere, Skip, Remove, MakeConsumer, DropConsumer, Deliver, Acked, Due, GivenUp, Now}
use Rattle.block_table.specs.Blocks.{Blocks, no_blocks}
use Rattle.block_table.specs.Closing.{closed}
use Rattle.block_table.specs.Puts.{put, removed}
use Rattle.stream_store.specs.declared.steps.Step.{Step}
use Rattle.stream_store.specs.declared.steps.Step.TheVariants as step
use Rattle.stream_store.specs.declared.late.LateTable.{LateTable}

-- a message that does not fit is left out
abbrev pub with_step : Step → Blocks → Blocks
with_step (step.Put seq spot) b = unwrap_or (put seq spot b) b
with_step (step.Remove low high) b = removed low high b
with_step step.Clear b = no_blocks
with_step step.Close b = closed b

-- one step after the other
abbrev pub with_steps : List Step → Blocks → Blocks
with_steps [] b = b
with_steps (s ∷ steps) b = with_steps steps (with_step s b)

-- messages go by it
abbrev pub is_loss : Step → Bool
is_loss (step.Put seq spot) = false
is_loss (step.Remove low high) = true
is_loss step.Clear = true
is_loss step.Close = false

-- messages go by one of them
abbrev pub takes_away : List Step → Bool
takes_away steps = list_any is_loss steps

-- the steps of these changes, whose messages lie at these spots, in their order
abbrev pub steps_of : List Effect → List Spot → List Step
steps_of [] spots = []
steps_of (MakeStream incarnation made config ∷ es) spots = step.Clear ∷ steps_of es spots
steps_of (ChangeStream config ∷ es) spots = steps_of es spots
steps_of (DropStream ∷ es) spots = step.Clear ∷ steps_of es spots
steps_of (PutHere seq at id subject headers payload ∷ es) [] = steps_of es []
steps_of (PutHere seq at id subject headers payload ∷ es) (spot ∷ spots) = step.Put seq spot ∷ steps_of es spots
steps_of (Skip seq at id ∷ es) spots = steps_of es spots
steps_of (Remove low high ∷ es) spots = step.Remove low high ∷ steps_of es spots
steps_of (MakeConsumer name made config cursor picks ∷ es) spots = steps_of es spots
steps_of (DropConsumer name ∷ es) spots = steps_of es spots
steps_of (Deliver name seq count due dseq ∷ es) spots = steps_of es spots
steps_of (Acked name low high ∷ es) spots = steps_of es spots
steps_of (Due name seq due ∷ es) spots = steps_of es spots
steps_of (GivenUp name moment ∷ es) spots = steps_of es spots
steps_of (Now moment ∷ es) spots = steps_of es spots

-- and that of the end of their batch
abbrev pub batch_steps : List Effect → List Spot → List Step
batch_steps es spots = steps_of es spots ++ step.Close ∷ []

-- whatever changes come behind this one, its step was added, if it has one, and the spots are left that are not its message's
abbrev pub AddsStep : List Step → Effect → List Spot → List Step → List Spot → Type 0
AddsStep old e spots new left = (es : List Effect) → new ++ steps_of es left ≡ old ++ steps_of (e ∷ es) spots

-- the table with the steps that it has not taken yet
abbrev pub blocks_in : LateTable → Blocks
blocks_in late = with_steps (drop late.taken late.steps.items) late.table
