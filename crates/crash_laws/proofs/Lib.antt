pub mod Beginnings
pub mod Following
pub mod Opened
pub mod Timed
