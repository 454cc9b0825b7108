mod Openers
mod Called
pub mod Sessions
