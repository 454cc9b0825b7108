-- Reading a log file from gate to gate.
use Rattle.std.proofs.Common.{◌≡◌, ◌≢◌, inl, inr, ℕ, ◌+◌, ◌-◌, ◌<◌, ◌^◌, List, [], ◌∷◌, ◌++◌, Option, Some, MatchOption, length, take, drop, refl, sym, ◌∙◌, ap, subst, arith, length-take, length-drop, take-append-drop}
use Rattle.std.specs.Prelude.{if◌then◌else◌, ◌==◌}
use Rattle.std.specs.Int.{w32, to_be_bytes, from_be_bytes}
use Rattle.std.proofs.lemmas.Bool.{cases_eq}
use Rattle.std.proofs.lemmas.Bool.Decides.{nat_tests}
use Rattle.std.proofs.lemmas.List.{drop-drop, take_at}
use Rattle.std.proofs.lemmas.Nat.{from_be_bytes-to_be_bytes_4}
use Rattle.js_base.specs.Bytes.{Bytes}
use Rattle.checksum.specs.Crc.{crc32c}
use Rattle.checksum.proofs.Registers.{crc32c_lt}
use Rattle.checksum.proofs.Checking.{checked-append}
use Rattle.gate_log.specs.Batches.{open_batches, end_of}
use Rattle.gate_log.specs.Faults.{told_length}
use Rattle.gate_log.specs.Walking.{IsNextGate, IsDamagedGate, IsWalked, IsGateFault, IsWalkFault}
use Rattle.gate_log.specs.declared.fault.LogFault.{LogFault}
use Rattle.gate_log.specs.declared.fault.LogFault.TheVariants.{Fault, NoMemory, Damaged, UnknownVersion}
use Rattle.gate_log.proofs.OneReading.{same_number}
use Rattle.gate_log.proofs.Spelling.{length-be4, open_batches-push, lengths-push, end_of-push, first-push}

pub four_bytes : (bytes into : Bytes) (at n : ℕ) → into ≡ take 4 (drop at bytes) → to_be_bytes w32 n ≡ into → drop at bytes ≡ to_be_bytes w32 n ++ drop (at + 4) bytes
four_bytes bytes into at n is value =
    sym (take-append-drop 4 (drop at bytes)) ∙ ap (λ (l : Bytes). l ++ drop 4 (drop at bytes)) (sym is ∙ sym value) ∙ ap (λ (l : Bytes). to_be_bytes w32 n ++ l) (drop-drop 4 at bytes)

-- what stands at a gate, whose bytes are read piece by piece while nothing is written
pub parts : (bytes mid last : Bytes) (gate at count sum : ℕ) → mid ≡ bytes → last ≡ bytes → gate ≡ 1 → drop at bytes ≡ gate ∷ drop (at + 1) bytes →
    drop (at + 1) mid ≡ to_be_bytes w32 count ++ drop (at + 1 + 4) mid → drop (at + 5) last ≡ to_be_bytes w32 sum ++ drop (at + 5 + 4) last →
    drop at bytes ≡ 1 ∷ (to_be_bytes w32 count ++ (to_be_bytes w32 sum ++ drop (at + 9) bytes))
parts bytes mid last gate at count sum same alike one first second third =
    let five : at + 1 + 4 ≡ at + 5 = omega arith in
    let nine : at + 5 + 4 ≡ at + 9 = omega arith in
    let length_is = subst (λ (l : Bytes). drop (at + 1) l ≡ to_be_bytes w32 count ++ drop (at + 1 + 4) l) same second in
    let sum_is = subst (λ (l : Bytes). drop (at + 5) l ≡ to_be_bytes w32 sum ++ drop (at + 5 + 4) l) alike third in
    first ∙ ap (λ (g : ℕ). g ∷ drop (at + 1) bytes) one
    ∙ ap (λ (l : Bytes). 1 ∷ l) (length_is ∙ ap (λ (k : ℕ). to_be_bytes w32 count ++ drop k bytes) five
    ∙ ap (λ (l : Bytes). to_be_bytes w32 count ++ l) (sum_is ∙ ap (λ (k : ℕ). to_be_bytes w32 sum ++ drop k bytes) nine))

-- with the right checksum a batch stands there
pub is_open : (bytes : Bytes) (at count sum : ℕ) → drop at bytes ≡ 1 ∷ (to_be_bytes w32 count ++ (to_be_bytes w32 sum ++ drop (at + 9) bytes)) → sum ≡ crc32c (take count (drop (at + 9) bytes)) →
    at + 9 + count < length bytes → count < 2 ^ 32 → IsNextGate bytes at (Some (at + 9 + count))
is_open bytes at count sum whole sum_is room small =
    let records = take count (drop (at + 9) bytes) in
    let tail = drop (at + 9 + count) bytes in
    let size : length records ≡ count = omega (arith, length-take count (drop (at + 9) bytes), length-drop (at + 9) bytes) in
    let rest : drop (at + 9) bytes ≡ records ++ tail = sym (take-append-drop count (drop (at + 9) bytes)) ∙ ap (λ (l : Bytes). records ++ l) (drop-drop count (at + 9) bytes) in (
      records,
      whole ∙ ap (λ (l : Bytes). 1 ∷ (to_be_bytes w32 count ++ (to_be_bytes w32 sum ++ l))) rest
          ∙ ap (λ (n : ℕ). 1 ∷ (to_be_bytes w32 n ++ (to_be_bytes w32 sum ++ (records ++ tail)))) (sym size)
          ∙ ap (λ (n : ℕ). 1 ∷ (to_be_bytes w32 (length records) ++ (to_be_bytes w32 n ++ (records ++ tail)))) sum_is
          ∙ ap (λ (l : Bytes). 1 ∷ l) (sym (checked-append records tail)),
      ap (λ (n : ℕ). at + 9 + n) (sym size),
      room,
      subst (λ n. n < 2 ^ 32) (sym size) small,
    )

-- bytes that end too early
pub short_gate : (bytes : Bytes) (gate at size : ℕ) → gate ≡ 1 → drop at bytes ≡ gate ∷ drop (at + 1) bytes → size ≡ length bytes → size - at < 10 → IsDamagedGate bytes at
short_gate bytes gate at size one first size_is short = (
  drop (at + 1) bytes,
  first ∙ ap (λ (g : ℕ). g ∷ drop (at + 1) bytes) one,
  inl (omega (arith, length-drop (at + 1) bytes)),
)

-- records that pass the end
pub long_batch : (bytes mid : Bytes) (gate at count size : ℕ) → mid ≡ bytes → gate ≡ 1 → drop at bytes ≡ gate ∷ drop (at + 1) bytes → drop (at + 1) mid ≡ to_be_bytes w32 count ++ drop (at + 1 + 4) mid →
    size ≡ length bytes → size - at - 10 < count → count < 2 ^ 32 → IsDamagedGate bytes at
long_batch bytes mid gate at count size same one first second size_is long small = (
  drop (at + 1) bytes,
  first ∙ ap (λ (g : ℕ). g ∷ drop (at + 1) bytes) one,
  inl (omega (arith, length-drop (at + 1) bytes, told)),
)
  where
    there : drop (at + 1) bytes ≡ to_be_bytes w32 count ++ drop (at + 1 + 4) bytes
    there = subst (λ (l : Bytes). drop (at + 1) l ≡ to_be_bytes w32 count ++ drop (at + 1 + 4) l) same second

    told : told_length (drop (at + 1) bytes) ≡ count
    told = ap (λ (l : Bytes). from_be_bytes w32 (take 4 l)) there ∙ ap (λ (l : Bytes). from_be_bytes w32 l) (take_at (to_be_bytes w32 count) (drop (at + 1 + 4) bytes) 4 (length-be4 count)) ∙ from_be_bytes-to_be_bytes_4 count small

-- records with another checksum
pub other_checksum : (bytes : Bytes) (at count sum found : ℕ) → drop at bytes ≡ 1 ∷ (to_be_bytes w32 count ++ (to_be_bytes w32 sum ++ drop (at + 9) bytes)) → found ≡ crc32c (take count (drop (at + 9) bytes)) →
    found ≢ sum → count < 2 ^ 32 → sum < 2 ^ 32 → IsDamagedGate bytes at
other_checksum bytes at count sum found whole found_is differs small less = (
  to_be_bytes w32 count ++ (to_be_bytes w32 sum ++ drop (at + 9) bytes),
  whole,
  inr (λ is. differs (found_is ∙ sym (same_number sum (crc32c (take count (drop (at + 9) bytes))) less (crc32c_lt (take count (drop (at + 9) bytes))) (is ∙ ap (λ (n : ℕ). to_be_bytes w32 (crc32c (take n (drop (at + 9) bytes)))) (from_be_bytes-to_be_bytes_4 count small))))),
)

pub walk_none : (bytes : Bytes) → IsWalked bytes [] 20
walk_none bytes = record { bytes_are = refl; here = refl; lengths = tt }

-- a gate further
abbrev pub WalkedTo : Bytes → ℕ → ℕ → Type 0
WalkedTo bytes first last = (batches : List Bytes) × IsWalked bytes batches last × (first ≡ end_of (take 1 batches))

walk_more : (bytes : Bytes) (at next : ℕ) (batches : List Bytes) (gate : IsNextGate bytes at (Some next)) → IsWalked bytes batches at → IsWalked bytes (batches ++ gate.0 ∷ []) next
walk_more bytes at next batches gate so_far =
    let records = gate.0 in
    record {
      bytes_are = so_far.bytes_are ∙ ap (λ (l : Bytes). open_batches batches ++ l) (gate.1) ∙ sym (open_batches-push batches records (drop next bytes));
      here = omega (arith, gate.2, so_far.here, end_of-push batches records);
      lengths = lengths-push batches records so_far.lengths gate.4;
    }

pub first_more : (first last next : ℕ) (batches : List Bytes) (records : Bytes) → first ≡ end_of (take 1 batches) → last ≡ end_of batches → next ≡ end_of (batches ++ records ∷ []) →
    (if last == 20 then next else first) ≡ end_of (take 1 (batches ++ records ∷ []))
first_more first last next batches records one two three = elim (cases_eq last 20) [
  | inl none ↦ at_none none ∙ sym ((first-push batches records first last next one two three).0 none)
  | inr some ↦ at_some some ∙ sym ((first-push batches records first last next one two three).1 (omega (arith, some, two)))
]
  where
    at_none : last ≡ 20 → (if last == 20 then next else first) ≡ next
    at_none none = grind (arith, nat_tests)

    at_some : last ≢ 20 → (if last == 20 then next else first) ≡ first
    at_some some = grind (arith, nat_tests)

-- a walk goes on to the next gate
pub walks_on : (bytes mid : Bytes) (first last next f l : ℕ) (found : Option ℕ) → mid ≡ bytes → found ≡ Some next → WalkedTo bytes first last → IsNextGate mid last found →
    l ≡ next → f ≡ (if last == 20 then next else first) → WalkedTo bytes f l
walks_on bytes mid first last next f l found same is walked gate at which =
    let batches = walked.0 in
    let here : IsNextGate bytes last (Some next) = subst (λ (o : Option ℕ). IsNextGate bytes last o) is (subst (λ (b : Bytes). IsNextGate b last found) same gate) in
    let more = walk_more bytes last next batches here walked.1 in (
      batches ++ here.0 ∷ [],
      subst (λ (n : ℕ). IsWalked bytes (batches ++ here.0 ∷ []) n) (sym at) more,
      which ∙ first_more first last next batches here.0 walked.2 walked.1.here more.here,
    )

-- the fault at the gate is that of the walk
pub walk_fault : (bytes mid : Bytes) (fault : LogFault) (first last : ℕ) → mid ≡ bytes → WalkedTo bytes first last → IsGateFault mid last fault → IsWalkFault bytes fault
walk_fault bytes mid Fault first last same walked h = tt
walk_fault bytes mid NoMemory first last same walked h = h
walk_fault bytes mid (Damaged place) first last same walked h = (
  walked.0,
  subst (λ (n : ℕ). IsWalked bytes walked.0 n) (sym h.0) walked.1,
  subst (λ (n : ℕ). IsDamagedGate bytes n) (sym h.0) (subst (λ (b : Bytes). IsDamagedGate b last) same h.1),
)
walk_fault bytes mid (UnknownVersion n) first last same walked h = h

pub next_inside : (found : Option ℕ) (at next len : ℕ) → found ≡ Some next → MatchOption found (Unit {0}) (λ n. (at < n) × (n < len)) → next < len
next_inside found at next len is within = (subst (λ (o : Option ℕ). MatchOption o (Unit {0}) (λ n. (at < n) × (n < len))) is within).1
