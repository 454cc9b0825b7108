-- What is read at a gate of a log.
use Rattle.std.proofs.Common.{◌≡◌, ◌≢◌, ℕ, ◌+◌, ◌<◌, ◌≤◌, ◌^◌, List, [], ◌∷◌, ◌++◌, Option, None, Some, IfSome, length, take, drop, refl, sym, ◌∙◌, ap, subst, arith, append_assoc, length-append}
use Rattle.std.specs.Int.{w32, to_be_bytes}
use Rattle.std.proofs.lemmas.List.{take_at, drop-drop, append-nil}
use Rattle.vol_disk.specs.Disk.{Disk}
use Rattle.vol_disk.specs.Does.{Rests}
use Rattle.vol_disk.specs.Moments.{Quiet}
use Rattle.js_base.specs.Bytes.{Bytes}
use Rattle.checksum.specs.Crc.{crc32c}
use Rattle.checksum.proofs.Checking.{checked-append}
use Rattle.gate_log.specs.Head.{head}
use Rattle.gate_log.specs.Batches.{open_batch, open_batches, end_of, HaveLengths}
use Rattle.gate_log.specs.LogFile.{Spells, IsLog, HasOpen}
use Rattle.gate_log.specs.LogState.{LogState, generation_of}
use Rattle.gate_log.specs.Settled.{IsSettled}
use Rattle.gate_log.specs.Reading.{IsGate, IsFirstOf}
use Rattle.gate_log.proofs.Spelling.{length-be4, length-open_batch, open_batches-cut, lengths-cut, end_of-push, size, rest_is}
use Rattle.gate_log.proofs.OneReading.{same_number, front_of}

-- calls that leave the file of a log alone leave the log settled
pub settled_rests : (log : LogState) (batches : List Bytes) (old new : Disk) → Rests log.file old new → IsSettled log batches old → IsSettled log batches new
settled_rests log batches old new rests settled = record {
  read = subst (λ (l : Bytes). HasOpen l (generation_of log) batches) (sym rests.seen) settled.read;
  head = subst (λ (l : Bytes). IfSome log.head (λ generation. IsLog generation batches l)) (sym rests.seen) settled.head;
  first_end = settled.first_end;
  end = settled.end;
  durable = λ bytes left. settled.durable bytes (rests.leaves bytes left) ∙ sym rests.seen;
}

-- and so do calls that write nothing
pub settled_quiet : (log : LogState) (batches : List Bytes) (old new : Disk) → Quiet old new → IsSettled log batches old → IsSettled log batches new
settled_quiet log batches old new still = settled_rests log batches old new (record { seen = still.seen log.file; leaves = still.leaves log.file })

-- the gate after a batch that was read
pub next_gate : (log : LogState) (front rest : List Bytes) (at next : ℕ) (records : Bytes) (old new : Disk) → IsGate log front rest at old → Quiet old new → IsFirstOf (Some (records, next)) front rest →
    (more : List Bytes) × IsGate log (front ++ records ∷ []) more next new
next_gate log front rest at next records old new gate still found = (
  found.0,
  record {
    settled = settled_quiet log ((front ++ records ∷ []) ++ found.0) old new still (subst (λ (l : List Bytes). IsSettled log l old) (ap (λ (l : List Bytes). front ++ l) found.1 ∙ sym (append_assoc front (records ∷ []) found.0)) gate.settled);
    here = found.2;
  },
)

-- a batch stands behind this gate, and one gate more behind it
pub record IsThere (bytes : Bytes) (at : ℕ) (records : Bytes) : Type 0 where
  pub tail : Bytes
  pub behind : drop (at + 1) bytes ≡ to_be_bytes w32 (length records) ++ (to_be_bytes w32 (crc32c records) ++ (records ++ tail))
  pub more : at + 9 + length records < length bytes
  pub short : length records < 2 ^ 32

there_in : (bytes : Bytes) (g : ℕ) (front : List Bytes) (records : Bytes) (more : List Bytes) → IsLog g (front ++ records ∷ more) bytes → IsThere bytes (end_of front) records
there_in bytes g front records more log =
    let tail = open_batches more ++ log.gate ∷ log.rest in
    let back : Bytes = to_be_bytes w32 (length records) ++ (to_be_bytes w32 (crc32c records) ++ (records ++ tail)) in
    let spells : Spells bytes g front 1 back = record {
      bytes_are = log.spells.bytes_are ∙ ap (λ (l : Bytes). head g ++ (l ++ log.gate ∷ log.rest)) (open_batches-cut front records more) ∙ ap (λ (l : Bytes). head g ++ l) (regroup (open_batches front) records (open_batches more) (log.gate ∷ log.rest));
      below = log.spells.below;
      lengths = lengths-front front (records ∷ more) log.spells.lengths;
    } in
    record {
      tail = tail;
      behind = rest_is bytes g front 1 back spells;
      more = omega (arith, size bytes g front 1 back spells, length-append (to_be_bytes w32 (length records)) (to_be_bytes w32 (crc32c records) ++ (records ++ tail)), length-append (to_be_bytes w32 (crc32c records)) (records ++ tail), length-append records tail, length-append (open_batches more) (log.gate ∷ log.rest), length-be4 (length records), length-be4 (crc32c records));
      short = lengths-cut front records more log.spells.lengths;
    }
  where
    lengths-front : (front rest : List Bytes) → HaveLengths (front ++ rest) → HaveLengths front
    lengths-front [] rest h = tt
    lengths-front (b ∷ front) rest h = (h.0, lengths-front front rest h.1)

    regroup : (a b m r : Bytes) → (a ++ (open_batch b ++ m)) ++ r ≡ a ++ 1 ∷ (to_be_bytes w32 (length b) ++ (to_be_bytes w32 (crc32c b) ++ (b ++ (m ++ r))))
    regroup a b m r = append_assoc a (open_batch b ++ m) r ∙ ap (λ (l : Bytes). a ++ l) (append_assoc (open_batch b) m r ∙ ap (λ (l : Bytes). 1 ∷ l) (checked-append b (m ++ r)))

-- a log that has a batch
some_log : (bytes : Bytes) (g : Option ℕ) (front : List Bytes) (records : Bytes) (more : List Bytes) → HasOpen bytes g (front ++ records ∷ more) → (h : ℕ) × IsLog h (front ++ records ∷ more) bytes
some_log bytes None [] records more open_ = absurd open_
some_log bytes None (b ∷ front) records more open_ = absurd open_
some_log bytes (Some g) [] records more open_ = (g, open_)
some_log bytes (Some g) (b ∷ front) records more open_ = (g, open_)

-- the end is after all batches alone
pub at_end : (log : LogState) (front rest : List Bytes) (at : ℕ) (disk : Disk) → IsGate log front rest at disk → at ≡ log.end → rest ≡ []
at_end log front [] at disk gate is = refl
at_end log front (b ∷ more) at disk gate is =
    absurd (omega (arith, gate.here, gate.settled.end, ap length (open_batches-cut front b more), length-append (open_batches front) (open_batch b ++ open_batches more), length-append (open_batch b) (open_batches more), length-open_batch b))

pub record IsAtGate (log : LogState) (front rest : List Bytes) (at : ℕ) (disk : Disk) : Type 0 where
  pub records : Bytes
  pub others : List Bytes
  pub rest_is : rest ≡ records ∷ others
  pub there : IsThere (disk.seen log.file) at records
  pub before_end : at + 9 + length records ≤ log.end

pub at_gate : (log : LogState) (front rest : List Bytes) (at : ℕ) (disk : Disk) → IsGate log front rest at disk → at ≢ log.end → IsAtGate log front rest at disk
at_gate log front [] at disk gate ne = absurd (ne (gate.here ∙ ap end_of (sym (append-nil front)) ∙ sym gate.settled.end))
at_gate log front (b ∷ more) at disk gate ne =
    let log_is = some_log (disk.seen log.file) (generation_of log) front b more gate.settled.read in
    record {
      records = b;
      others = more;
      rest_is = refl;
      there = subst (λ (n : ℕ). IsThere (disk.seen log.file) n b) (sym gate.here) (there_in (disk.seen log.file) log_is.0 front b more log_is.1);
      before_end = omega (arith, gate.here, gate.settled.end, ap length (open_batches-cut front b more), length-append (open_batches front) (open_batch b ++ open_batches more), length-append (open_batch b) (open_batches more), length-open_batch b);
    }

-- the number that is read there is the length
pub count_there : (bytes : Bytes) (at : ℕ) (records : Bytes) (count from : ℕ) → IsThere bytes at records → from ≡ at + 1 → count < 2 ^ 32 → drop from bytes ≡ to_be_bytes w32 count ++ drop (from + 4) bytes → count ≡ length records
count_there bytes at records count from there is small e =
    same_number count (length records) small there.short (front_of (to_be_bytes w32 count) (to_be_bytes w32 (length records)) (drop (from + 4) bytes) (to_be_bytes w32 (crc32c records) ++ (records ++ there.tail)) 4 (length-be4 count) (length-be4 (length records)) (sym e ∙ ap (λ (k : ℕ). drop k bytes) is ∙ there.behind))

-- and the bytes behind the checksum are the records
pub records_there : (bytes : Bytes) (at : ℕ) (records read : Bytes) (count from : ℕ) → IsThere bytes at records → from ≡ at + 9 → count ≡ length records → read ≡ take count (drop from bytes) → read ≡ records
records_there bytes at records read count from there is count_is e =
    let back : drop from bytes ≡ records ++ there.tail = ap (λ (k : ℕ). drop k bytes) (is ∙ nine) ∙ sym (drop-drop 8 (at + 1) bytes) ∙ ap (λ (l : Bytes). drop 8 l) there.behind in
    e ∙ ap (λ (n : ℕ). take n (drop from bytes)) count_is ∙ ap (λ (l : Bytes). take (length records) l) back ∙ take_at records there.tail (length records) refl
  where
    nine : at + 9 ≡ at + 1 + 8
    nine = omega arith

-- what is found is the first of the batches that are left
pub first_found : (log : LogState) (front rest : List Bytes) (at : ℕ) (disk : Disk) (read : Bytes) (next : ℕ) → IsGate log front rest at disk → (gate : IsAtGate log front rest at disk) → read ≡ gate.records → next ≡ at + 9 + length gate.records →
    IsFirstOf (Some (read, next)) front rest
first_found log front rest at disk read next here gate is next_is = (
  gate.others,
  gate.rest_is ∙ ap (λ (b : Bytes). b ∷ gate.others) (sym is),
  omega (arith, next_is, here.here, end_of-push front read, ap length is),
)
