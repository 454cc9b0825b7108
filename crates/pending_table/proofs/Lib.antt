pub mod Around
pub mod Ranges
pub mod Kept
pub mod Quieter
pub mod Changed
pub mod Tables
pub mod Moved
