pub mod Indexed
pub mod Stored
pub mod PushedOut
pub mod Selecting
pub mod Heads
pub mod Later
pub mod Restoring
