pub mod Needs
pub mod Stored
