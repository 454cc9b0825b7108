pub mod Lines
pub mod Faults
pub mod Places
pub mod Spelled
pub mod Starts
pub mod Told
pub mod Values
pub mod Written
