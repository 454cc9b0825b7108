pub mod Answers
pub mod Held
pub mod Needing
pub mod Recording
