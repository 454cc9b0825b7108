-- What holds of a place on a volume between any two calls.
use Rattle.std.specs.Prelude.{◌≡◌, ◌⊎◌, ℕ, List, IsTrue, Option, None, Some}
use Rattle.std.specs.List.{list_all}
use Rattle.js_model.specs.declared.stream.State.{State}
use Rattle.js_model.specs.Lasting.{lasting}
use Rattle.model_laws.specs.Bounds.{IsBounded, IsWritable}
use Rattle.model_laws.specs.Sound.{IsSound}
use Rattle.effects.specs.Durables.{durable_of}
use Rattle.effects.specs.Restorable.{IsRestorable}
use Rattle.effects.specs.declared.effect.Effect.{Effect}
use Rattle.op_records.specs.Allowed.{is_record}
use Rattle.vol_disk.specs.Disk.{Disk}
use Rattle.vol_disk.specs.Images.{IsImage}
use Rattle.stream_store.specs.Base.{IsBase}
use Rattle.stream_store.specs.StoreState.{StoreState}
use Rattle.stream_store.specs.Waiting.{Waits}
use Rattle.place_engine.specs.Stepping.{Image}
use Rattle.volume_place.specs.Images.{holds}

-- the disk holds a state, and what waits leads from it to what stands
pub record IsBacked (disk : Disk) (store : StoreState) (waiting : List Effect) (state : State) : Type 0 where
  pub base : State
  pub all_lasts : lasting base ≡ base
  pub is_base : IsBase store (durable_of base) disk
  pub waits : Waits (durable_of base) waiting state

-- each image that a crash now may leave holds a state from which what waits leads to what stands, or what outlives a crash of the latter
abbrev pub IsLeftByBoth : Disk → List Effect → State → Type 0
IsLeftByBoth disk waiting state = (image : Image) → IsImage disk image → (b : State) × holds image b × (Waits (durable_of b) waiting state ⊎ (b ≡ lasting state))

-- of a place that goes on, and of one that is stopped
abbrev pub IsOnDisk : Option ℕ → Disk → StoreState → List Effect → State → Type 0
IsOnDisk None disk store waiting state = IsBacked disk store waiting state
IsOnDisk (Some count) disk store waiting state = IsLeftByBoth disk waiting state

-- what stands can be committed, with records that a log may have; and where the disk is told, it is on it
pub record IsSoundPlace (told : Type 0) (disk : Disk) (store : StoreState) (waiting : List Effect) (stopped : Option ℕ) (state : State) : Type 0 where
  pub sound : IsSound state
  pub bounded : IsBounded state
  pub writable : IsWritable state
  pub restorable : IsRestorable state
  pub records : IsTrue (list_all is_record waiting)
  pub on_disk : told → IsOnDisk stopped disk store waiting state
