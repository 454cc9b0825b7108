pub mod Spelling
pub mod OneReading
mod LetOn
mod Pieces
mod Walks
mod Crash
pub mod Openings
mod Emptying
mod Appendings
pub mod GateReads
pub mod Heads
pub mod Growing
pub mod Rooms
