-- The first fault of a log file of more than 21 bytes, in the order of the offsets. Own.
use Rattle.std.specs.Prelude.{◌≡◌, ◌≢◌, ◌⊎◌, ℕ, ◌+◌, ◌<◌, ◌≤◌, ◌^◌, List, length, take, drop, slice_index, Some}
use Rattle.std.specs.Int.{w16, w32, w64, to_be_bytes, from_be_bytes}
use Rattle.js_base.specs.Bytes.{Bytes}
use Rattle.js_base.specs.Numbers.{number_at}
use Rattle.checksum.specs.Crc.{crc32c}
use Rattle.gate_log.specs.Head.{mark, version}
use Rattle.gate_log.specs.Batches.{end_of}
use Rattle.gate_log.specs.LogFile.{Spells}

-- at offset 0: it does not begin with the mark
abbrev pub HasNoMark : Bytes → Type 0
HasNoMark bytes = take 6 bytes ≢ mark

-- at offset 6: its version is another one
pub record HasUnknownVersion (bytes : Bytes) (n : ℕ) : Type 0 where
  pub marked : take 6 bytes ≡ mark
  pub is : number_at w16 bytes 6 ≡ Some n
  pub unknown : n ≢ version

-- The first gate is open. In front of a closed one neither the generation counts nor its checksum.
abbrev pub IsFirstOpen : Bytes → Type 0
IsFirstOpen bytes = slice_index bytes 20 ≡ 1

-- at offset 8: its generation is too great
pub record HasBadGeneration (bytes : Bytes) : Type 0 where
  pub first_open : IsFirstOpen bytes
  pub marked : take 6 bytes ≡ mark
  pub known : number_at w16 bytes 6 ≡ Some version
  pub generation : ℕ
  pub is : number_at w64 bytes 8 ≡ Some generation
  pub too_great : 2 ^ 62 ≤ generation

-- at offset 16: its checksum is not that of the bytes before
pub record HasBadChecksum (bytes : Bytes) : Type 0 where
  pub first_open : IsFirstOpen bytes
  pub marked : take 6 bytes ≡ mark
  pub known : number_at w16 bytes 6 ≡ Some version
  pub generation : ℕ
  pub is : number_at w64 bytes 8 ≡ Some generation
  pub below : generation < 2 ^ 62
  pub differs : number_at w32 bytes 16 ≢ Some (crc32c (take 16 bytes))

-- the head is damaged, at this offset
abbrev pub IsHeadDamagedAt : Bytes → ℕ → Type 0
IsHeadDamagedAt bytes at = ((at ≡ 0) × HasNoMark bytes) ⊎ (((at ≡ 8) × HasBadGeneration bytes) ⊎ ((at ≡ 16) × HasBadChecksum bytes))

-- how many bytes of records are told behind an open gate
abbrev pub told_length : Bytes → ℕ
told_length rest = from_be_bytes w32 (take 4 rest)

-- Behind an open gate stand fewer bytes than the length, the checksum, the records and the next gate have. Of a length or a checksum that is
-- itself cut short, these are more bytes than there are in any case.
abbrev pub PassesEnd : Bytes → Type 0
PassesEnd rest = length rest < 8 + told_length rest + 1

-- the checksum behind an open gate is not that of the records
abbrev pub DiffersFromChecksum : Bytes → Type 0
DiffersFromChecksum rest = take 4 (drop 4 rest) ≢ to_be_bytes w32 (crc32c (take (told_length rest) (drop 8 rest)))

-- what stands behind an open gate is no batch and a gate
abbrev pub IsDamagedBatch : Bytes → Type 0
IsDamagedBatch rest = PassesEnd rest ⊎ DiffersFromChecksum rest

-- at the gate after some open batches: it opens a batch that is damaged
pub record HasDamagedBatch (bytes : Bytes) (at : ℕ) : Type 0 where
  pub generation : ℕ
  pub batches : List Bytes
  pub rest : Bytes
  pub spells : Spells bytes generation batches 1 rest
  pub damaged : IsDamagedBatch rest
  pub here : at ≡ end_of batches

-- the file is longer than 21 bytes, and its first fault is damage at this offset
pub record IsDamagedAt (bytes : Bytes) (at : ℕ) : Type 0 where
  pub long : 21 < length bytes
  pub damage : IsHeadDamagedAt bytes at ⊎ HasDamagedBatch bytes at

-- the file is longer than 21 bytes, and its first fault is this version
pub record IsOfUnknownVersion (bytes : Bytes) (n : ℕ) : Type 0 where
  pub long : 21 < length bytes
  pub version : HasUnknownVersion bytes n
