pub mod Places
pub mod Meeting
pub mod Decimals
pub mod Printing
pub mod Causes
mod Rows
