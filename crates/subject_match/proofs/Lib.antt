pub mod Dots
pub mod Checks
