-- A batch: all of its messages are placed first, by the table before it, and then its steps change the table one after the other.
use Rattle.std.specs.Prelude.{◌≡◌, ℕ, ◌<◌, ◌≤◌, ◌^◌, true, List, [], ◌∷◌, length, IfSome}
use Rattle.std.specs.Option.{IsSomeAnd}
use Rattle.block_table.specs.declared.placing.Placing.{Placing}
use Rattle.block_table.specs.Blocks.{Blocks, no_blocks, blocks}
use Rattle.block_table.specs.Puts.{is_above, put, removed}
use Rattle.block_table.specs.Placings.{placing, place, restarted}
use Rattle.block_table.specs.Rooms.{in_use}

pub data Step : Type 0 where
  -- a message is stored, with this sequence and so many bytes
  Store : ℕ → ℕ → Step
  -- the messages with these sequences go
  Remove : ℕ → ℕ → Step
  -- the stream goes, and another one begins
  Restart : Step

-- each message for which there is a place fits the table as the steps before it left it: the first table is the one before the batch, by
-- which they are placed. The last table has no more blocks than were in use.
abbrev pub AreTaken : Blocks → List Step → Placing → Blocks → Type 0
AreTaken before [] p b = length (blocks b) ≤ in_use before p
AreTaken before (Store seq len ∷ more) p b =
    is_above seq b.placed ≡ true → len < 2 ^ 32
    → IfSome (place before len p) (λ r. IsSomeAnd (put seq r.0 b) (λ c. AreTaken before more r.1 c))
AreTaken before (Remove low high ∷ more) p b = AreTaken before more p (removed low high b)
AreTaken before (Restart ∷ more) p b = AreTaken before more (restarted p) no_blocks

-- no message of a batch misfits where it is placed, and the batch leaves no more blocks than it found and began
abbrev pub LawBatch : Type 0
LawBatch = (b : Blocks) (steps : List Step) → AreTaken b steps (placing b) b
