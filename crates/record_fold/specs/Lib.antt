pub mod Misfits
pub mod Changes
pub mod Faults
pub mod Entries
