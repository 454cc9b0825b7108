pub mod Queue
pub mod Passing
pub mod Fronts
pub mod Quiet
pub mod Kept
