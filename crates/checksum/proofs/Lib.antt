mod Linear
pub mod Registers
pub mod Checking
mod Rows
