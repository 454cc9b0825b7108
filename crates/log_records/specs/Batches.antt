-- What the open batches of a log give, by a format of this server's own: the first one tells what a place was when the log was begun, and each later one what
-- changed.
use Rattle.std.specs.Prelude.{◌≡◌, length, List, [], ◌∷◌, Some, Ok}
use Rattle.js_base.specs.Bytes.{Bytes}
use Rattle.op_records.specs.declared.record.Record.{Record}
use Rattle.op_records.specs.Reading.{AreRecords}
use Rattle.state_snapshot.specs.Reading.{snapshot_field}
use Rattle.state_snapshot.specs.declared.snapshot.Snapshot.{Snapshot}
use Rattle.block_table.specs.Closing.{closed}
use Rattle.durable_checks.specs.Storable.{IsStorable}
use Rattle.log_records.specs.Logged.{Logged, beginning, fold_records}
use Rattle.log_records.specs.Beginnings.{CanBegin, logged_in}

-- behind a batch the block being written is left, if it may be
abbrev pub closed_in : Logged → Logged
closed_in g = record g { blocks = closed g.blocks }

-- the bytes of a batch are records that lead from the one to the other
pub record Adds (old : Logged) (bytes : Bytes) (new : Logged) : Type 0 where
  pub records : List Record
  pub stand : AreRecords bytes records
  pub made : Logged
  pub folded : fold_records records (Some old) ≡ Some made
  pub new_is : new ≡ closed_in made
  pub storable : IsStorable new.durable

-- one batch after the other
abbrev pub AddAll : Logged → List Bytes → Logged → Type 0
AddAll old [] new = old ≡ new
AddAll old (batch ∷ batches) new = (mid : Logged) × Adds old batch mid × AddAll mid batches new

-- the first batch is one snapshot, with which a log can begin
pub record Begins (bytes : Bytes) (begun : Logged) : Type 0 where
  pub snapshot : Snapshot
  pub reads : snapshot_field bytes 0 ≡ Ok (snapshot, length bytes)
  pub begun_is : begun ≡ logged_in snapshot
  pub can : CanBegin begun

-- where no batch is open, the place is vacant and never had a stream
abbrev pub Gives : List Bytes → Logged → Type 0
Gives [] given = given ≡ beginning 0
Gives (first ∷ later) given = (begun : Logged) × Begins first begun × AddAll begun later given
