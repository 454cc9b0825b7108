pub mod SequenceSets
pub mod Replacing
pub mod Changes
pub mod Prefixes
pub mod Beneath
pub mod Matched
