pub mod Places
pub mod Lengths
pub mod Numbers
pub mod Takers
pub mod Handing
pub mod Calls
pub mod Laws
pub mod Entries
pub mod Tables
pub mod Taking
pub mod Searching
pub mod Members
mod Idle
