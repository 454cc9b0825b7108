pub mod Tells
pub mod EntriesExact
pub mod SnapshotsExact
pub mod Writable
pub mod Puts
pub mod Spots
pub mod RowsOfSnapshots
