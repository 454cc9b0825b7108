pub mod Kept
pub mod Taken
pub mod Given
pub mod Made
pub mod Restoring
