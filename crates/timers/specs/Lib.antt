pub mod Timers
pub mod Bounds
