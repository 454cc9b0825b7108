pub mod Removed
pub mod Leaving
