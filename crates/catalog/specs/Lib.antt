pub mod Numbers
pub mod Names
pub mod Entries
pub mod Apart
pub mod Used
pub mod Holding
pub mod Conflicts
