pub mod Subs
pub mod Ids
pub mod Searching
pub mod Beneath
pub mod Sought
pub mod Names
pub mod NodeIds
pub mod Tree
