-- What the images of a volume hold of a place, and what reads of the volume give and a crash may leave of it.
use Rattle.std.specs.Prelude.{◌≡◌, ◌≤◌, ℕ, Option, None, Some}
use Rattle.js_model.specs.declared.stream.State.{State}
use Rattle.js_model.specs.Lasting.{lasting}
use Rattle.effects.specs.Durables.{durable_of}
use Rattle.vol_disk.specs.Disk.{Disk}
use Rattle.stream_store.specs.Holding.{Holds}
use Rattle.place_engine.specs.Stepping.{Image}

-- the image holds the state, all of which outlives a crash
abbrev pub holds : Image → State → Type 0
holds image state = Holds image (durable_of state) × (lasting state ≡ state)

-- reads give the image, if the volume's disk is told
abbrev pub reads : {V : Type 0} → Type 0 → (V → Disk) → V → Image → Type 0
reads told disk vol image = told × (image ≡ (disk vol).seen)

-- a crash at some moment of the volume from one on may have left the image, if the volume's disk is told
abbrev pub left : {V : Type 0} → Type 0 → (V → Disk) → V → ℕ → Image → Type 0
left told disk vol t image = told × (disk vol).may_leave t image

abbrev pub clock : {V : Type 0} → (V → Disk) → V → ℕ
clock disk vol = (disk vol).moment

-- a crash now may leave an image that holds the state
pub record IsLeftNow {V : Type 0} (told : Type 0) (disk : V → Disk) (vol : V) (state : State) : Type 0 where
  pub image : Image
  pub is_left : left told disk vol (clock disk vol) image
  pub held : holds image state

-- What reads give is the base of a place that goes on. A commit that stopped a place may have been made or not: there a crash may leave either.
abbrev pub base : {V : Type 0} → Type 0 → (V → Disk) → Option ℕ → V → State → Type 0
base told disk None vol state = told × holds (disk vol).seen state
base told disk (Some count) vol state = IsLeftNow told disk vol state

-- a call counts its faults and its refusals of room, and the time of its disk goes on
pub record Keeps {V : Type 0} (disk : V → Disk) (faults refusals : V → ℕ) (old new : V) : Type 0 where
  pub faults_later : faults old ≤ faults new
  pub refusals_later : refusals old ≤ refusals new
  pub moment_later : (disk old).moment ≤ (disk new).moment
