pub mod Converted
pub mod Failures
pub mod Flushed
pub mod Opening
pub mod Refused
pub mod Rows
pub mod Sets
pub mod Turns
