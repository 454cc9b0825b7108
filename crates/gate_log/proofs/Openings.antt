-- What is known of a log that is opened.
use Rattle.std.proofs.Common.{◌≡◌, ◌≢◌, ◌⊎◌, inl, inr, ℕ, ◌+◌, ◌<◌, List, [], ◌∷◌, ◌++◌, Option, None, Some, IfSome, length, take, get_or, refl, sym, ◌∙◌, ap, subst, arith}
use Rattle.std.specs.Prelude.{if◌then◌else◌, ◌==◌}
use Rattle.std.proofs.lemmas.Bool.{cases_eq}
use Rattle.std.proofs.lemmas.Bool.Decides.{nat_tests}
use Rattle.vol_disk.specs.Disk.{Disk}
use Rattle.std.proofs.lemmas.List.{take-take}
use Rattle.vol_disk.specs.Images.{IsDurable}
use Rattle.js_base.specs.Bytes.{Bytes}
use Rattle.gate_log.specs.Head.{head}
use Rattle.gate_log.specs.Batches.{open_batches, end_of}
use Rattle.gate_log.specs.LogFile.{IsLog, HasOpen}
use Rattle.gate_log.specs.Faults.{HasNoMark, HasUnknownVersion, HasBadGeneration, HasBadChecksum, IsHeadDamagedAt, HasDamagedBatch}
use Rattle.gate_log.specs.LogState.{LogState, generation_of, new_log}
use Rattle.gate_log.specs.Settled.{IsSettled}
use Rattle.gate_log.specs.Opening.{IsOpenFault, IsHeadRead, IsHeadFault, IsHeadFaultOf}
use Rattle.gate_log.specs.Walking.{IsDamagedGate, IsWalked, AreEnds, IsWalkFault}
use Rattle.gate_log.specs.declared.fault.LogFault.{LogFault}
use Rattle.gate_log.specs.declared.fault.LogFault.TheVariants.{Fault, NoMemory, Damaged, UnknownVersion}
use Rattle.gate_log.proofs.Spelling.{spelled, end_of-some}
use Rattle.gate_log.proofs.Heads.{no_mark, unknown_version, gate_in_front, bad_generation, bad_checksum}
use Rattle.gate_log.proofs.OneReading.{none_shut}

-- ---- the head

-- the fault of a head is that of its file
pub head_fault : (bytes front : Bytes) (cause : LogFault) → 21 < length bytes → front ≡ take 21 bytes → IsHeadFault front cause → IsHeadFaultOf bytes cause
head_fault bytes front Fault long is h = absurd h
head_fault bytes front NoMemory long is h = h
head_fault bytes front (Damaged at) long is (inl h) = inl (h.0, no_mark bytes (subst HasNoMark is h.1))
head_fault bytes front (Damaged at) long is (inr (inl h)) = inr (inl (h.0, bad_generation bytes (omega arith) (subst HasBadGeneration is h.1)))
head_fault bytes front (Damaged at) long is (inr (inr h)) = inr (inr (h.0, bad_checksum bytes (omega arith) (subst HasBadChecksum is h.1)))
head_fault bytes front (UnknownVersion n) long is h = unknown_version bytes n (omega arith) (subst (λ (l : Bytes). HasUnknownVersion l n) is h)

-- and what is read of it
pub head_read : (bytes front : Bytes) (found : Option ℕ) → 21 < length bytes → front ≡ take 21 bytes → IsHeadRead front found → IsHeadRead bytes found
head_read bytes front None long is shut = record {
  marked = sym (take-take 8 21 bytes (omega arith)) ∙ ap (λ (l : Bytes). take 8 l) (sym is) ∙ shut.marked;
  long = omega arith;
  closed = λ one. shut.closed (ap (λ (l : Bytes). get_or l 20 0) is ∙ gate_in_front bytes ∙ one);
}
head_read bytes front (Some g) long is read = (
  sym (gate_in_front bytes) ∙ ap (λ (l : Bytes). get_or l 20 0) (sym is) ∙ read.0,
  sym (take-take 20 21 bytes (omega arith)) ∙ ap (λ (l : Bytes). take 20 l) (sym is) ∙ read.1,
  read.2,
)

-- ---- faults

pub open_head_fault : (bytes mid : Bytes) (cause : LogFault) → mid ≡ bytes → 21 < length bytes → IsHeadFaultOf mid cause → IsOpenFault bytes cause
open_head_fault bytes mid Fault same long h = tt
open_head_fault bytes mid NoMemory same long h = h
open_head_fault bytes mid (Damaged at) same long h = record { long = long; damage = inl (subst (λ (l : Bytes). IsHeadDamagedAt l at) same h) }
open_head_fault bytes mid (UnknownVersion n) same long h = record { long = long; version = subst (λ (l : Bytes). HasUnknownVersion l n) same h }

-- a damaged batch after some others
damaged_batch : (bytes : Bytes) (g at : ℕ) (batches : List Bytes) → IsHeadRead bytes (Some g) → IsWalked bytes batches at → IsDamagedGate bytes at → HasDamagedBatch bytes at
damaged_batch bytes g at batches read walked bad = record {
  generation = g;
  batches = batches;
  rest = bad.0;
  spells = spelled bytes g batches 1 bad.0 read.1 read.2 walked.lengths (walked.bytes_are ∙ ap (λ (l : Bytes). open_batches batches ++ l) bad.1);
  damaged = bad.2;
  here = walked.here;
}

pub open_walk_fault : (bytes mid last : Bytes) (g : ℕ) (cause : LogFault) → mid ≡ bytes → last ≡ bytes → 21 < length bytes → IsHeadRead mid (Some g) → IsWalkFault last cause → IsOpenFault bytes cause
open_walk_fault bytes mid last g Fault same alike long read h = tt
open_walk_fault bytes mid last g NoMemory same alike long read h = h
open_walk_fault bytes mid last g (Damaged at) same alike long read h = record {
  long = long;
  damage = inr (damaged_batch bytes g at h.0 (subst (λ (l : Bytes). IsHeadRead l (Some g)) same read) (subst (λ (l : Bytes). IsWalked l h.0 at) alike h.1) (subst (λ (l : Bytes). IsDamagedGate l at) alike h.2));
}
open_walk_fault bytes mid last g (UnknownVersion n) same alike long read h = absurd h

-- ---- logs

no_generation : (log : LogState) → log.end ≡ 20 → generation_of log ≡ None
no_generation log is = grind (arith, nat_tests)

some_generation : (log : LogState) → 20 < log.end → generation_of log ≡ log.head
some_generation log lt = grind (arith, nat_tests)

-- a log is read as it is known
pub read_log : (log : LogState) (g : ℕ) (batches : List Bytes) (bytes : Bytes) → log.head ≡ Some g → log.end ≡ end_of batches → IsLog g batches bytes → HasOpen bytes (generation_of log) batches
read_log log g [] bytes h e is = subst (λ (o : Option ℕ). HasOpen bytes o []) (sym (no_generation log e)) (inr (none_shut bytes g is))
read_log log g (b ∷ batches) bytes h e is =
    subst (λ (o : Option ℕ). HasOpen bytes o (b ∷ batches)) (sym (some_generation log (omega (arith, e, end_of-some b batches)) ∙ h)) is

-- what is known of it settles it
pub settled_log : (log : LogState) (g : ℕ) (batches : List Bytes) (disk : Disk) → log.head ≡ Some g → log.first_end ≡ end_of (take 1 batches) → log.end ≡ end_of batches → IsDurable disk log.file →
    IsLog g batches (disk.seen log.file) → IsSettled log batches disk
settled_log log g batches disk h first last durable is = record {
  read = read_log log g batches (disk.seen log.file) h last is;
  head = subst (λ (o : Option ℕ). IfSome o (λ generation. IsLog generation batches (disk.seen log.file))) (sym h) is;
  first_end = first;
  end = last;
  durable = durable;
}

-- a file that holds nothing
pub settled_none : (file : ℕ) (disk : Disk) → IsDurable disk file → HasOpen (disk.seen file) None [] → IsSettled (new_log file None) [] disk
settled_none file disk durable none = record { read = none; head = tt; first_end = refl; end = refl; durable = durable }

-- a walk that ended at a closed gate
walked_log : (bytes : Bytes) (g first last : ℕ) → IsHeadRead bytes (Some g) → (ends : AreEnds bytes first last) → IsLog g ends.batches bytes
walked_log bytes g first last read ends =
    let at = ends.closed in
    record {
      gate = at.0;
      rest = at.1;
      spells = spelled bytes g ends.batches at.0 at.1 read.1 read.2 ends.walked.lengths (ends.walked.bytes_are ∙ ap (λ (l : Bytes). open_batches ends.batches ++ l) at.2);
      closed = at.3;
    }

abbrev known : ℕ → ℕ → ℕ → Option ℕ → LogState
known file first last h = record { file = file; head = h; first_end = first; end = last }

-- the log that is opened
pub settled_walk : (file g first last : ℕ) (disk : Disk) (log : LogState) → IsHeadRead (disk.seen file) (Some g) → AreEnds (disk.seen file) first last → IsDurable disk file →
    log ≡ record { file = file; head = if last == 20 then None else Some g; first_end = first; end = last } → (batches : List Bytes) × IsSettled log batches disk
settled_walk file g first last disk log read ends durable is = subst (λ (l : LogState). (batches : List Bytes) × IsSettled l batches disk) (sym is) (ends.batches, here ends.batches ends.first ends.walked.here (walked_log (disk.seen file) g first last read ends) (cases_eq last 20))
  where
    none_at : last ≡ 20 → (if last == 20 then None else Some g) ≡ None
    none_at none = grind (arith, nat_tests)

    some_at : last ≢ 20 → (if last == 20 then None else Some g) ≡ Some g
    some_at some = grind (arith, nat_tests)

    here : (batches : List Bytes) → first ≡ end_of (take 1 batches) → last ≡ end_of batches → IsLog g batches (disk.seen file) → (last ≡ 20) ⊎ (last ≢ 20) → IsSettled (known file first last (if last == 20 then None else Some g)) batches disk
    here batches one two log_is (inr some) = subst (λ (h : Option ℕ). IsSettled (known file first last h) batches disk) (sym (some_at some)) (settled_log (known file first last (Some g)) g batches disk refl one two durable log_is)
    here [] one two log_is (inl none) = subst (λ (h : Option ℕ). IsSettled (known file first last h) [] disk) (sym (none_at none)) (record { read = subst (λ (o : Option ℕ). HasOpen (disk.seen file) o []) (sym (no_generation (known file first last None) none)) (inr (none_shut (disk.seen file) g log_is)); head = tt; first_end = one; end = two; durable = durable })
    here (b ∷ batches) one two log_is (inl none) = absurd (omega (arith, none, two, end_of-some b batches))
