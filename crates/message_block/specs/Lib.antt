pub mod Standing
pub mod Changing
