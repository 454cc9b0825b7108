-- What stays at the end of a batch, where the block being written may be left.
use Rattle.std.proofs.Common.{◌≡◌, ℕ, Bool, true, false, cond, List, [], ◌∷◌, ◌++◌, Option, Some, None, All}
use Rattle.std.specs.Option.{option_to_list}
use Rattle.std.proofs.lemmas.List.Elements.{All-nil, All-cons, All-head, All-tail, All-append}
use Rattle.vol_disk.specs.Disk.{Files}
use Rattle.js_base.specs.declared.spot.Spot.{Spot}
use Rattle.js_model.specs.declared.stream.Message.{Message}
use Rattle.effects.specs.declared.effect.Effect.{Effect}
use Rattle.block_table.specs.declared.block.Block.{Block}
use Rattle.block_table.specs.declared.placed.Placed.{Placed}
use Rattle.block_table.specs.Blocks.{Blocks, blocks}
use Rattle.block_table.specs.Closing.{closed, is_left, written_on}
use Rattle.block_reading.specs.Standing.{AreStoredIn, IsWhole}
use Rattle.stream_store.specs.Steps.{batch_steps, steps_of, with_steps}
use Rattle.stream_store.specs.declared.steps.Step.TheVariants as step
use Rattle.stream_store.proofs.Taken.{steps_push}

-- the steps of a batch, and then its end
pub batch_closes : (es : List Effect) (spots : List Spot) (b : Blocks) → with_steps (batch_steps es spots) b ≡ closed (with_steps (steps_of es spots) b)
batch_closes es spots b = steps_push (steps_of es spots) step.Close b

-- ---- what each block has

module _ (P : Block → Type 0) where
  first_of : (xs ys : List Block) → All P (xs ++ ys) → All P xs
  first_of [] ys h = All-nil P
  first_of (x ∷ xs) ys h = All-cons P x xs (All-head P x (xs ++ ys) h) (first_of xs ys (All-tail P x (xs ++ ys) h))

  second_of : (xs ys : List Block) → All P (xs ++ ys) → All P ys
  second_of [] ys h = h
  second_of (x ∷ xs) ys h = second_of xs ys (All-tail P x (xs ++ ys) h)

  all_written : (ps : List Placed) (w : Option Block) → All P (option_to_list w) → All P (option_to_list (written_on ps w))
  all_written ps None h = h
  all_written ps (Some k) h = go (is_left ps k)
    where
      go : (t : Bool) → All P (option_to_list (cond t None (Some k)))
      go true = All-nil P
      go false = h

  pub all_closed : (b : Blocks) → All P (blocks b) → All P (blocks (closed b))
  all_closed b h =
      All-append P b.older (option_to_list (written_on b.placed b.writing)) (first_of b.older (option_to_list b.writing) h)
      (all_written b.placed b.writing (second_of b.older (option_to_list b.writing) h))

pub stored_closed : (image : Files) (b : Blocks) (last : ℕ) (ms : List Message) → AreStoredIn image b last ms → AreStoredIn image (closed b) last ms
stored_closed image b last ms h = record { whole = all_closed (IsWhole image last) b h.whole; found = h.found }
