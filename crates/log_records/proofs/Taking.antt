-- What is known of a record that was read, and of the first one of a log.
use Rattle.std.proofs.Common.{◌≡◌, inl, inr, ℕ, ◌+◌, ◌<◌, ◌≤◌, length, IsTrue, Ok, None, refl, ap, ◌∙◌, arith}
use Rattle.std.specs.Prelude.{All}
use Rattle.std.proofs.lemmas.List.Elements.{All-from_get_or}
use Rattle.js_base.specs.Bytes.{Bytes}
use Rattle.effects.specs.declared.effect.Effect.{Effect}
use Rattle.effects.specs.declared.effect.Effect.TheVariants.{MakeStream, ChangeStream, DropStream, PutHere, Skip, Remove, MakeConsumer, DropConsumer, Deliver, Acked, Due, GivenUp, Now}
use Rattle.op_records.specs.declared.record.Record.{Record}
use Rattle.op_records.specs.declared.record.Record.TheVariants.{Put, Change}
use Rattle.op_records.specs.Allowed.{may_stand}
use Rattle.op_records.specs.Answers.{IsFaultOf}
use Rattle.op_records.specs.Reading.{record_at}
use Rattle.op_records.specs.Spelling.{spelled, spelled_record}
use Rattle.op_records.specs.declared.fault.RecordFault.{RecordFault}
use Rattle.op_records.specs.declared.fault.RecordFault.TheVariants.{Cut, BadKind, BadField, NoMemory as NoRoom}
use Rattle.op_records.proofs.Exact.{AreBytes}
use Rattle.op_records.proofs.RecordsExact.{record_took}
use Rattle.state_snapshot.specs.Allowed.{is_snapshot}
use Rattle.state_snapshot.specs.Reading.{snapshot_field}
use Rattle.state_snapshot.specs.declared.snapshot.Snapshot.{Snapshot}
use Rattle.state_snapshot.proofs.SnapshotsExact.{law_snapshot}
use Rattle.log_records.specs.Logged.{Logged, fold_record}
use Rattle.log_records.specs.Misfits.{misfit_of}
use Rattle.log_records.specs.Reading.{IsBatch, IsNextFault, IsPlaced, IsStartFault, fault_of}
use Rattle.log_records.specs.declared.batch.BatchFault.{BatchFault}
use Rattle.log_records.specs.declared.batch.BatchFault.TheVariants as batch

-- ---- a record

spelled_some : (e : Effect) → 0 < length (spelled e)
unfolding spelled
spelled_some (MakeStream incarnation made config) = omega arith
spelled_some (ChangeStream config) = omega arith
spelled_some DropStream = omega arith
spelled_some (PutHere seq at id subject headers payload) = omega arith
spelled_some (Skip seq at id) = omega arith
spelled_some (Remove low high) = omega arith
spelled_some (MakeConsumer name made config cursor picks) = omega arith
spelled_some (DropConsumer name) = omega arith
spelled_some (Deliver name seq count due dseq) = omega arith
spelled_some (Acked name low high) = omega arith
spelled_some (Due name seq due) = omega arith
spelled_some (GivenUp name moment) = omega arith
spelled_some (Now moment) = omega arith

record_some : (r : Record) → 0 < length (spelled_record r)
unfolding spelled_record
record_some (Put seq at id spot) = omega arith
record_some (Change e) = spelled_some e

pub record IsTaken (bytes : Bytes) (at : ℕ) (r : Record) (behind : ℕ) : Type 0 where
  pub allowed : IsTrue (may_stand r)
  pub further : at < behind
  pub within : behind ≤ length bytes

pub taken : (bytes : Bytes) (at : ℕ) (r : Record) (behind : ℕ) → AreBytes bytes → IsBatch bytes → record_at bytes at ≡ Ok (r, behind) → IsTaken bytes at r behind
taken bytes at r behind are short reads =
    let took = record_took bytes at r behind (record { are_bytes = are; short = short }) reads in
    record { allowed = took.allowed; further = omega (arith, took.there.ends, record_some r); within = took.there.within }

pub misread : (old : Logged) (bytes : Bytes) (here : ℕ) (fault : RecordFault) → IsFaultOf (record_at bytes here) fault → IsNextFault old bytes here (fault_of fault)
misread old bytes here (Cut at) h = inl (Cut at, h, refl)
misread old bytes here (BadKind at) h = inl (BadKind at, h, refl)
misread old bytes here (BadField at) h = inl (BadField at, h, refl)
misread old bytes here NoRoom h = tt

pub misfits : (old : Logged) (bytes : Bytes) (here : ℕ) (found : Record) (behind field : ℕ) (fault : BatchFault) → record_at bytes here ≡ Ok (found, behind) → fold_record old found ≡ None → field ≡ misfit_of old found → IsPlaced here field fault
    → IsNextFault old bytes here fault
misfits old bytes here found behind field (batch.Wrong place) reads unfit is h = inr (found, behind, reads, unfit, h ∙ ap (λ (n : ℕ). here + n) is)
misfits old bytes here found behind field batch.NoMemory reads unfit is h = tt

-- ---- where a log begins

pub start_fault : (first : Bytes) (fault : RecordFault) → IsFaultOf (snapshot_field first 0) fault → IsStartFault first (fault_of fault)
start_fault first (Cut at) h = inl (Cut at, h, refl)
start_fault first (BadKind at) h = inl (BadKind at, h, refl)
start_fault first (BadField at) h = inl (BadField at, h, refl)
start_fault first NoRoom h = tt

pub snapshot_allowed : (bytes : Bytes) (snapshot : Snapshot) → AreBytes bytes → IsBatch bytes → snapshot_field bytes 0 ≡ Ok (snapshot, length bytes) → IsTrue (is_snapshot snapshot)
snapshot_allowed bytes snapshot are short reads =
    let all : All (λ byte. byte < 256) bytes = All-from_get_or (λ byte. byte < 256) bytes 0 (λ i within. are i) in
    ((law_snapshot bytes snapshot (record { are_bytes = all; short = short })).0 reads).allowed
