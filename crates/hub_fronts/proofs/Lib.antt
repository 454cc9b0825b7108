pub mod Sets
pub mod Grown
pub mod Seen
pub mod Fronts
pub mod Names
