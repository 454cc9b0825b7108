use Rattle.state_snapshot.proofs.SnapshotsExact.{law_snapshot}
use Rattle.state_snapshot.proofs.Writable.{law_writable}
use Rattle.state_snapshot.proofs.laws.law_snapshots.Goals as goal

pub returns : goal.returns
returns c = record { snapshot = law_snapshot; writable = law_writable }
