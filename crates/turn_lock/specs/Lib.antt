pub mod Views
pub mod Ruled
pub mod Steps
pub mod Seats
pub mod Calls
