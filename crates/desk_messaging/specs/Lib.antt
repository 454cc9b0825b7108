pub mod Plain
pub mod Tellings
