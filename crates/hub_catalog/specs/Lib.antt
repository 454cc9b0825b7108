pub mod Lists
pub mod Kinds
pub mod Calls
pub mod Turns
pub mod Laws
