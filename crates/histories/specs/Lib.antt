pub mod Entries
pub mod Lawful
pub mod Fronts
pub mod Laws
