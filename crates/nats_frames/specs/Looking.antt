-- What is known of bytes of which more may come.
use Rattle.std.specs.Prelude.{ℕ, ◌≡◌, ◌≢◌, ◌+◌, ◌<◌, ◌≤◌, ◌++◌, length, take, drop, slice_index, [], ◌∷◌, Some, Ok}
use Rattle.js_base.specs.Bytes.{Bytes}
use Rattle.nats_frames.specs.declared.look.Look.{Look}
use Rattle.nats_frames.specs.declared.look.Look.TheVariants as looks
use Rattle.nats_frames.specs.declared.look.Ending.{Ending}
use Rattle.nats_frames.specs.declared.look.Ending.TheVariants as endings
use Rattle.nats_frames.specs.declared.line.Line.{Line as Lent}
use Rattle.nats_frames.specs.declared.op.Op.{Op}
use Rattle.nats_frames.specs.declared.fault.Fault.TheVariants.{BadEnd}
use Rattle.nats_frames.specs.Faults.{reach}
use Rattle.nats_frames.specs.Reading.{Reading, Whole, Partial, Broken, split_at, without_cr, line_at, op_at, ended}
use Rattle.nats_frames.specs.Shapes.{op_in, seen, Stands, Fits}

-- no LF is among the first bytes, at most as many as a line may have
pub record IsScanned (bytes : Bytes) (scanned : ℕ) : Type 0 where
  pub within : scanned ≤ length bytes
  pub short : scanned ≤ 4098
  pub none : (k : ℕ) → k < scanned → slice_index bytes k ≢ 10

-- until so many bytes are there, they are less than an operation
abbrev pub IsQuiet : (Bytes → Reading) → Bytes → ℕ → Type 0
IsQuiet reading bytes quiet = (more : Bytes) → length (bytes ++ more) < quiet → reading (bytes ++ more) ≡ Partial

-- what a look at the first bytes shows
abbrev pub Looks : Bytes → Look → Type 0
Looks bytes (looks.Whole shape len) =
    (len ≤ length bytes) × Fits (take len bytes) shape × (op_at bytes ≡ Whole (op_in (take len bytes) shape) (drop len bytes))
Looks bytes (looks.Partial scanned quiet) = (op_at bytes ≡ Partial) × IsScanned bytes scanned × IsQuiet op_at bytes quiet
Looks bytes (looks.Broken fault) = (op_at bytes ≡ Broken fault) × (reach fault ≤ length bytes)

-- the first line has its LF at the place, and says this
pub record IsLineTo (bytes : Bytes) (end : ℕ) (line : Lent) : Type 0 where
  pub within : end < length bytes
  pub short : end < 4098
  pub none : (k : ℕ) → k < end → slice_index bytes k ≢ 10
  pub first : split_at 10 bytes ≡ Some (take end bytes, drop (end + 1) bytes)
  pub stands : Stands (without_cr (take end bytes)) line
  pub says : line_at (take end bytes) ≡ Ok (seen (without_cr (take end bytes)) line)

-- what a look after a line shows that counts a payload of this size: the place is counted from the end of the line
abbrev pub Ends : ℕ → Bytes → Ending → Type 0
Ends size bytes endings.Whole = (size + 2 ≤ length bytes) × (take 2 (drop size bytes) ≡ 13 ∷ 10 ∷ [])
Ends size bytes (endings.Partial quiet) = (length bytes < quiet) × (quiet ≤ size + 2) × (size + 1 < quiet → drop size bytes ≡ 13 ∷ [])
Ends size bytes (endings.Wrong place) =
    (size ≤ place) × (place < length bytes) × ((made : Op) (from : ℕ) → ended made (from + size) (drop size bytes) ≡ Broken (BadEnd (from + place)))
