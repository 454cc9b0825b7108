pub mod Places
pub mod Quieter
pub mod Passes
pub mod Loops
pub mod Tallies
