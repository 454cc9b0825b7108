-- What is known of a place on a volume.
use Rattle.std.specs.Prelude.{ℕ, List, Option}
use Rattle.js_model.specs.declared.stream.State.{State}
use Rattle.effects.specs.declared.effect.Effect.{Effect}
use Rattle.stream_store.specs.StoreState.{StoreState}

pub record Contents (V : Type 0) : Type 0 where
  -- what stands there, in memory
  pub state : State
  -- the log of its volume
  pub store : StoreState
  pub vol : V
  -- the records of what was made since the last commit
  pub waiting : List Effect
  -- the moment at which the first of them was made that tells of more than time, if there is one
  pub since : Option ℕ
  -- how many messages stood there when it was opened, or were stored since
  pub stored : ℕ
  -- the volume's count of faults as it stopped the place, if it did
  pub stopped : Option ℕ
  -- what of it counts whatever messages there are takes no more bytes in the first batch of a next log: the texts of its configurations
  pub fixed : ℕ
