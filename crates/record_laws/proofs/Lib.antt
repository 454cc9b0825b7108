pub mod Allowing
pub mod Removing
pub mod Passing
pub mod OwnRecords
pub mod Recording
