-- How the batches of a log are read, from gate to gate.
use Rattle.std.proofs.Common.{◌≡◌, inl, inr, ℕ, ◌+◌, List, [], ◌∷◌, ◌++◌, Option, Some, None, Result, Err, refl, sym, ap, subst, ◌∙◌, append_assoc}
use Rattle.std.specs.Prelude.{unwrap_or}
use Rattle.std.proofs.lemmas.List.Elements.{All-nil, All-push}
use Rattle.std.proofs.lemmas.List.{append-nil}
use Rattle.vol_disk.specs.Disk.{Disk}
use Rattle.vol_disk.specs.Moments.{Quiet}
use Rattle.js_base.specs.Bytes.{Bytes}
use Rattle.gate_log.specs.Batches.{end_of}
use Rattle.gate_log.specs.LogState.{LogState, generation_of}
use Rattle.gate_log.specs.Settled.{IsSettled}
use Rattle.gate_log.specs.Reading.{IsGate, IsReadAt}
use Rattle.gate_log.proofs.GateReads.{settled_quiet, next_gate}
use Rattle.gate_log.proofs.OneReading.{law}
use Rattle.log_records.specs.Logged.{Logged, beginning}
use Rattle.log_records.specs.Batches.{Adds, AddAll, Begins}
use Rattle.log_records.specs.Damage.{IsLast, HasBadRecord, IsNoFirst, HasBadBatch}
use Rattle.log_records.specs.Ends.{IsLastBehind, IsLastIn}
use Rattle.log_records.specs.Holding.{given_in}
use Rattle.log_records.specs.declared.log.LogRead.{LogRead}
use Rattle.log_records.specs.Reading.{IsReadTo, IsBegun, IsAddedAt, IsLastFrom, IsFirstFault, IsLaterFault, IsOutside, IsReadFault, GivesIn}
use Rattle.log_records.specs.declared.fault.ReadFault.{ReadFault}
use Rattle.log_records.specs.declared.fault.ReadFault.TheVariants.{Fault, Damaged, NoMemory as OutOfMemory}

abbrev IsEmpty : Bytes → Type 0
IsEmpty batch = batch ≡ []

-- the log has one list of batches
pub settled_same : (log : LogState) (xs ys : List Bytes) (disk : Disk) → IsSettled log xs disk → IsSettled log ys disk → xs ≡ ys
settled_same log xs ys disk h k = law.one_list (disk.seen log.file) (generation_of log) (generation_of log) xs ys h.read k.read

-- ---- the first batch

-- no batch is open
pub none_gives : (log : LogState) (disk : Disk) (r : LogRead) → IsReadAt log 20 disk None → given_in r ≡ beginning 0 → r.last ≡ 20 → GivesIn log disk r
none_gives log disk r read given last batches settled =
    let none : batches ≡ [] = read [] batches (record { settled = settled; here = refl }) in
    subst (λ (l : List Bytes). IsLastIn l (given_in r) r.last) (sym none) (given, last)

pub first_begun : (log : LogState) (first : Bytes) (gate : ℕ) (begun : Logged) (old new : Disk) (batches : List Bytes) → IsSettled log batches old → IsReadAt log 20 old (Some (first, gate)) → Quiet old new
    → Begins first begun → IsBegun log gate begun new
first_begun log first gate begun old new batches settled read still begins =
    let at : IsGate log [] batches 20 old = record { settled = settled; here = refl } in
    let next = next_gate log [] batches 20 gate first old new at still (read [] batches at) in
    record { first = first; rest = next.0; begins = begins; gate_is = next.1 }

pub first_fault : (log : LogState) (first : Bytes) (gate : ℕ) (disk : Disk) (at : ℕ) → IsReadAt log 20 disk (Some (first, gate)) → IsNoFirst first at
    → (batches : List Bytes) → IsSettled log batches disk → HasBadBatch batches at
first_fault log first gate disk at read bad batches settled =
    let found = read [] batches (record { settled = settled; here = refl }) in
    inl (record { first = first; later = found.0; batches_are = found.1; bad = bad })

-- ---- what is read to a gate

-- the first batch is some one
pub record Reaches (log : LogState) (gate : ℕ) (d : Logged) (last : ℕ) (disk : Disk) : Type 0 where
  pub first : Bytes
  pub begun : Logged
  pub begins : Begins first begun
  pub read : IsReadTo log first begun gate d last disk

pub reaches_first : (log : LogState) (gate : ℕ) (begun : Logged) (disk : Disk) → IsBegun log gate begun disk → Reaches log gate begun 29 disk
reaches_first log gate begun disk b = record {
  first = b.first;
  begun = begun;
  begins = b.begins;
  read = record { front = []; rest = b.rest; gate_is = b.gate_is; added = refl; last_is = inl (record { are_empty = All-nil IsEmpty; here = refl }) };
}

pub add_push : (begun mid new : Logged) (front : List Bytes) (records : Bytes) → AddAll begun front mid → Adds mid records new → AddAll begun (front ++ records ∷ []) new
add_push begun mid new [] records h adds = (new, subst (λ (d : Logged). Adds d records new) (sym h) adds, refl)
add_push begun mid new (b ∷ front) records (d, first, h) adds = (d, first, add_push d mid new front records h adds)

-- an empty batch more
last_stays : (first : Bytes) (begun : Logged) (front : List Bytes) (records : Bytes) (last : ℕ) → records ≡ [] → IsLastBehind first begun front last → IsLastBehind first begun (front ++ records ∷ []) last
last_stays first begun front records last none (inl h) = inl (record { are_empty = All-push IsEmpty front records h.are_empty none; here = h.here })
last_stays first begun front records last none (inr h) = inr (record {
  before = h.before;
  bytes = h.bytes;
  empty = h.empty ++ records ∷ [];
  later_is = ap (λ (l : List Bytes). l ++ records ∷ []) h.later_is ∙ append_assoc h.before (h.bytes ∷ h.empty) (records ∷ []);
  are_empty = All-push IsEmpty h.empty records h.are_empty none;
  old = h.old;
  so_far = h.so_far;
  place = h.place;
  made = h.made;
  last = h.last;
  here = h.here;
})

last_moves : (first : Bytes) (begun : Logged) (front : List Bytes) (old made : Logged) (records : Bytes) (gate place last : ℕ) → gate ≡ end_of (first ∷ front) → AddAll begun front old → IsLast old records place made
    → last ≡ gate + 9 + place → IsLastBehind first begun (front ++ records ∷ []) last
last_moves first begun front old made records gate place last gate_is added is here = inr (record {
  before = front;
  bytes = records;
  empty = [];
  later_is = refl;
  are_empty = All-nil IsEmpty;
  old = old;
  so_far = added;
  place = place;
  made = made;
  last = is;
  here = here ∙ ap (λ (n : ℕ). n + 9 + place) gate_is;
})

last_then : (first : Bytes) (begun : Logged) (front : List Bytes) (old made : Logged) (records : Bytes) (gate last : ℕ) (more : Option ℕ) → gate ≡ end_of (first ∷ front) → AddAll begun front old
    → IsLastBehind first begun front last → IsLastFrom gate old records made more → IsLastBehind first begun (front ++ records ∷ []) (unwrap_or more last)
last_then first begun front old made records gate last None here added h is = last_stays first begun front records last is h
last_then first begun front old made records gate last (Some at) here added h is = last_moves first begun front old made records gate is.0 at here added is.1 is.2

pub reaches_next : (log : LogState) (gate next : ℕ) (d new : Logged) (last : ℕ) (records : Bytes) (more : Option ℕ) (old disk : Disk) → Reaches log gate d last old → IsReadAt log gate old (Some (records, next)) → Quiet old disk
    → IsAddedAt gate d records new more → Reaches log next new (unwrap_or more last) disk
reaches_next log gate next d new last records more old disk r read still adds =
    let at = r.read.gate_is in
    let step = next_gate log (r.first ∷ r.read.front) r.read.rest gate next records old disk at still (read (r.first ∷ r.read.front) r.read.rest at) in
    record {
      first = r.first;
      begun = r.begun;
      begins = r.begins;
      read = record {
        front = r.read.front ++ records ∷ [];
        rest = step.0;
        gate_is = step.1;
        added = add_push r.begun d new r.read.front records r.read.added adds.adds;
        last_is = last_then r.first r.begun r.read.front d adds.adds.made records gate last more at.here r.read.added r.read.last_is adds.last_is;
      };
    }

-- a batch is wrong
pub later_fault : (log : LogState) (gate next : ℕ) (d : Logged) (last : ℕ) (records : Bytes) (place at : ℕ) (disk : Disk) → Reaches log gate d last disk → IsReadAt log gate disk (Some (records, next)) → HasBadRecord d records place
    → at ≡ gate + 9 + place → (batches : List Bytes) → IsSettled log batches disk → HasBadBatch batches at
later_fault log gate next d last records place at disk r read bad here batches settled =
    let gate_is = r.read.gate_is in
    let found = read (r.first ∷ r.read.front) r.read.rest gate_is in
    let whole : batches ≡ r.first ∷ (r.read.front ++ r.read.rest) = settled_same log batches (r.first ∷ (r.read.front ++ r.read.rest)) disk settled gate_is.settled in
    inr (record {
      first = r.first;
      front = r.read.front;
      bytes = records;
      rest = found.0;
      batches_are = whole ∙ ap (λ (l : List Bytes). r.first ∷ (r.read.front ++ l)) found.1;
      begun = r.begun;
      begins = r.begins;
      old = d;
      so_far = r.read.added;
      place = place;
      bad = bad;
      here = here ∙ ap (λ (n : ℕ). n + 9 + place) gate_is.here;
    })

-- ---- the end

all_read : (log : LogState) (gate : ℕ) (d : Logged) (last : ℕ) (disk : Disk) (r : Reaches log gate d last disk) → IsReadAt log gate disk None → (batches : List Bytes) → IsSettled log batches disk → batches ≡ r.first ∷ r.read.front
all_read log gate d last disk r read batches settled =
    let gate_is = r.read.gate_is in
    let none : r.read.rest ≡ [] = read (r.first ∷ r.read.front) r.read.rest gate_is in
    settled_same log batches (r.first ∷ (r.read.front ++ r.read.rest)) disk settled gate_is.settled
    ∙ ap (λ (l : List Bytes). r.first ∷ (r.read.front ++ l)) none ∙ ap (λ (l : List Bytes). r.first ∷ l) (append-nil r.read.front)

pub end_gives : (log : LogState) (gate : ℕ) (d : Logged) (last : ℕ) (disk : Disk) (found : LogRead) → Reaches log gate d last disk → IsReadAt log gate disk None → given_in found ≡ d → found.last ≡ last → GivesIn log disk found
end_gives log gate d last disk found r read given end batches settled =
    let at_end : IsLastIn batches d last =
    subst (λ (l : List Bytes). IsLastIn l d last) (sym (all_read log gate d last disk r read batches settled)) (r.begun, r.begins, r.read.added, r.read.last_is) in
    subst (λ (n : ℕ). IsLastIn batches (given_in found) n) (sym end) (subst (λ (g : Logged). IsLastIn batches g last) (sym given) at_end)

-- ---- what is known of the disk later was known of it before

pub gives_before : (log : LogState) (old new : Disk) (found : LogRead) → Quiet old new → GivesIn log new found → GivesIn log old found
gives_before log old new found still gives batches settled = gives batches (settled_quiet log batches old new still settled)

pub bad_before : (log : LogState) (old new : Disk) (at : ℕ) → Quiet old new → ((batches : List Bytes) → IsSettled log batches new → HasBadBatch batches at) → (batches : List Bytes) → IsSettled log batches old → HasBadBatch batches at
bad_before log old new at still bad batches settled = bad batches (settled_quiet log batches old new still settled)

-- ---- faults

pub outside_fault : (log : LogState) (disk : Disk) (fault : ReadFault) → IsOutside fault → IsReadFault log disk fault
outside_fault log disk Fault h = tt
outside_fault log disk (Damaged at) h = absurd h
outside_fault log disk OutOfMemory h = tt

pub first_read_fault : (log : LogState) (first : Bytes) (gate : ℕ) (disk : Disk) (fault : ReadFault) → IsReadAt log 20 disk (Some (first, gate)) → IsFirstFault first fault → IsReadFault log disk fault
first_read_fault log first gate disk Fault read h = absurd h
first_read_fault log first gate disk (Damaged at) read h = first_fault log first gate disk at read h
first_read_fault log first gate disk OutOfMemory read h = tt

pub later_read_fault : (log : LogState) (gate next : ℕ) (d : Logged) (last : ℕ) (records : Bytes) (old disk : Disk) (fault : ReadFault) → Quiet old disk → Reaches log gate d last disk → IsReadAt log gate disk (Some (records, next))
    → IsLaterFault gate d records fault → IsReadFault log old fault
later_read_fault log gate next d last records old disk Fault still r read h = absurd h
later_read_fault log gate next d last records old disk (Damaged at) still r read (place, bad, here) = bad_before log old disk at still (later_fault log gate next d last records place at disk r read bad here)
later_read_fault log gate next d last records old disk OutOfMemory still r read h = tt

pub fault_before : (log : LogState) (old new : Disk) (fault : ReadFault) → Quiet old new → IsReadFault log new fault → IsReadFault log old fault
fault_before log old new Fault still h = tt
fault_before log old new (Damaged at) still h = bad_before log old new at still h
fault_before log old new OutOfMemory still h = tt

pub cause_told : {T : Type 0} (result : Result T ReadFault) (told cause : ReadFault) → result ≡ Err told → told ≡ cause → result ≡ Err Fault → cause ≡ Fault
cause_told result told cause p q is = cc

-- these faults are not the volume's
pub first_is_own : (first : Bytes) (cause : ReadFault) → IsFirstFault first cause → cause ≡ Fault → ⊥
first_is_own first cause h is = subst (IsFirstFault first) is h

pub later_is_own : (gate : ℕ) (d : Logged) (records : Bytes) (cause : ReadFault) → IsLaterFault gate d records cause → cause ≡ Fault → ⊥
later_is_own gate d records cause h is = subst (IsLaterFault gate d records) is h
