pub mod Snapshots
pub mod Spelling
pub mod Allowed
pub mod Reading
pub mod Answers
pub mod Laws
