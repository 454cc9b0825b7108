-- What an image of a volume holds, by a format of this server's own: its log gives it with its messages unread, and these stand in the blocks. Where no log has
-- an open batch, nothing is there that a stream leaves.
use Rattle.std.specs.Prelude.{◌⊎◌, ℕ, Option, Some, None, IsSome}
use Rattle.vol_disk.specs.Disk.{Disk, Files}
use Rattle.vol_disk.specs.Images.{IsImage}
use Rattle.effects.specs.declared.durable.Body.{Body}
use Rattle.effects.specs.declared.durable.Durable.{Durable}
use Rattle.durable_checks.specs.Storable.{IsOpenable}
use Rattle.block_table.specs.Blocks.{Blocks}
use Rattle.block_reading.specs.Standing.{AreStoredIn}
use Rattle.log_records.specs.Batches.{Gives}
use Rattle.log_records.specs.Logged.{Logged}
use Rattle.log_records.specs.Unread.{unread, stored_messages}
use Rattle.stream_store.specs.Logs.{LogIn, HasLogs, current}
use Rattle.stream_store.specs.Untouched.{IsUntouched}

-- the last sequence that its stream gave, 0 if there is none
abbrev pub last_in : Option Body → ℕ
last_in None = 0
last_in (Some body) = body.last

abbrev pub last_of : Durable → ℕ
last_of d = last_in d.body

-- what a log tells of it, if its messages lie in these blocks
abbrev pub logged : Durable → Blocks → Logged
logged d b = record { durable = unread d; blocks = b }

-- neither log has a fault, the open batches of the current one give it and these blocks, and its messages are stored there
pub record HoldsIn (image : Files) (b : Blocks) (d : Durable) : Type 0 where
  pub zero : LogIn
  pub one : LogIn
  pub logs : HasLogs image zero one
  pub begun : IsSome (current zero one).generation ⊎ IsUntouched image
  pub gives : Gives (current zero one).batches (logged d b)
  pub stored : AreStoredIn image b (last_of d) (stored_messages d)
  pub openable : IsOpenable d

abbrev pub Holds : Files → Durable → Type 0
Holds image d = (b : Blocks) × HoldsIn image b d

-- whatever a crash leaves now
abbrev pub AllHold : Disk → Durable → Type 0
AllHold disk d = (image : Files) → IsImage disk image → Holds image d
