-- How long a file is at each moment of a call.
use Rattle.std.proofs.Common.{◌≡◌, ◌≤◌, ◌+◌, ℕ, max, length, take, drop, [], ◌∷◌, ◌++◌, ◌∙◌, ap, arith, length-take, length-drop, length-append}
use Rattle.std.specs.Int.{w32, to_be_bytes}
use Rattle.vol_disk.specs.Disk.{Disk}
use Rattle.vol_disk.specs.Images.{IsDurable, IsImage}
use Rattle.vol_disk.specs.Moments.{Quiet, Elsewhere}
use Rattle.vol_disk.specs.Steps.{written, Torn}
use Rattle.vol_disk.specs.Synced.{DoesSynced}
use Rattle.vol_disk.specs.Growing.{ExtendsAt, IsExtendedImage}
use Rattle.vol_disk.proofs.Moments.{joined, widened}
use Rattle.js_base.specs.Bytes.{Bytes}
use Rattle.checksum.specs.Checked.{checked}
use Rattle.checksum.specs.Crc.{crc32c}
use Rattle.gate_log.specs.Growing.{GrowsTo, StaysAsLong}
use Rattle.gate_log.specs.Staging.{behind_gate}

-- ---- as long as before

-- while nothing is written
pub long_quiet : (file : ℕ) (old new : Disk) → IsDurable old file → Quiet old new → StaysAsLong file old new
long_quiet file old new durable still =
    widened old new (λ image. length (image file) ≡ length (old.seen file)) (IsImage old) still.any_moment (λ image is. ap length (durable (image file) (is.left file)))

-- a step on the file behind it
pub long_then : (file : ℕ) (step : Bytes → Bytes → Type 0) (old mid new : Disk) → StaysAsLong file old mid → DoesSynced file step mid new
    → ((bytes : Bytes) → step (mid.seen file) bytes → length bytes ≡ length (old.seen file)) → StaysAsLong file old new
long_then file step old mid new so_far does same =
    joined old mid new (λ image. length (image file) ≡ length (old.seen file)) (λ image. step (mid.seen file) (image file) × Elsewhere file mid image) so_far does.any_moment (λ image h. same (image file) h.0)

-- one step alone
pub long_by : (file : ℕ) (step : Bytes → Bytes → Type 0) (old new : Disk) → DoesSynced file step old new → ((bytes : Bytes) → step (old.seen file) bytes → length bytes ≡ length (old.seen file)) → StaysAsLong file old new
long_by file step old new does same =
    widened old new (λ image. length (image file) ≡ length (old.seen file)) (λ image. step (old.seen file) (image file) × Elsewhere file old image) does.any_moment (λ image h. same (image file) h.0)

-- behind calls that write nothing
pub long_after : (file : ℕ) (old mid new : Disk) → IsDurable old file → Quiet old mid → StaysAsLong file mid new → StaysAsLong file old new
long_after file old mid new durable still then_ =
    joined old mid new (λ image. length (image file) ≡ length (old.seen file)) (λ image. length (image file) ≡ length (mid.seen file)) (long_quiet file old mid durable still) then_ (λ image h. h ∙ ap length (still.seen file))

-- a write within the file
pub torn_long : (at n : ℕ) (old new : Bytes) → at + n ≤ length old → Torn at n old new → length new ≡ length old
torn_long at n old new within torn = omega (arith, within, torn.no_shorter, torn.no_longer)

pub written_long : (at : ℕ) (bytes old new : Bytes) → at + length bytes ≤ length old → new ≡ written at bytes old → length new ≡ length old
written_long at bytes old new within is =
    let size : length new ≡ length ((take at old ++ bytes) ++ drop (at + length bytes) old) = ap length is in
    omega (arith, within, size, length-append (take at old ++ bytes) (drop (at + length bytes) old), length-append (take at old) bytes, length-take at old, length-drop (at + length bytes) old)

pub behind_length : (records : Bytes) → length (behind_gate records) ≡ 9 + length records
behind_length records =
    omega (arith, length-append (checked records) (0 ∷ []), length-append (to_be_bytes w32 (length records)) (to_be_bytes w32 (crc32c records) ++ records), length-append (to_be_bytes w32 (crc32c records)) records)

-- ---- longer

pub grows_quiet : (file count : ℕ) (old new : Disk) → IsDurable old file → Quiet old new → GrowsTo file count old new
grows_quiet file count old new durable still =
    widened old new (λ image. length (image file) ≤ max count (length (old.seen file))) (IsImage old) still.any_moment (λ image is. omega (arith, ap length (durable (image file) (is.left file))))

-- room that is made
pub grows_by : (file end : ℕ) (old new : Disk) → IsDurable old file → ExtendsAt file end old new → GrowsTo file end old new
grows_by file end old new durable extends =
    widened old new (λ image. length (image file) ≤ max end (length (old.seen file))) (λ image. IsExtendedImage file end old (image file) × Elsewhere file old image) extends.any_moment
    (λ image h. omega (arith, h.0.2.no_longer, ap length (durable h.0.0 h.0.1)))

-- with room for more
pub grows_more : (file count more : ℕ) (old new : Disk) → count ≤ more → GrowsTo file count old new → GrowsTo file more old new
grows_more file count more old new le grows =
    widened old new (λ image. length (image file) ≤ max more (length (old.seen file))) (λ image. length (image file) ≤ max count (length (old.seen file))) grows (λ image h. omega (arith, h, le))

-- one after the other
pub grows_on : (file count : ℕ) (old mid new : Disk) → GrowsTo file count old mid → length (mid.seen file) ≤ max count (length (old.seen file)) → GrowsTo file count mid new → GrowsTo file count old new
grows_on file count old mid new first most then_ =
    joined old mid new (λ image. length (image file) ≤ max count (length (old.seen file))) (λ image. length (image file) ≤ max count (length (mid.seen file))) first then_ (λ image h. omega (arith, h, most))

-- a write within the file
pub grows_then : (file count : ℕ) (step : Bytes → Bytes → Type 0) (old mid new : Disk) → GrowsTo file count old mid → DoesSynced file step mid new
    → ((bytes : Bytes) → step (mid.seen file) bytes → length bytes ≤ max count (length (old.seen file))) → GrowsTo file count old new
grows_then file count step old mid new grows does fits =
    joined old mid new (λ image. length (image file) ≤ max count (length (old.seen file))) (λ image. step (mid.seen file) (image file) × Elsewhere file mid image) grows does.any_moment (λ image h. fits (image file) h.0)
