pub mod Callers
pub mod Grounds
pub mod Outcomes
pub mod Reasons
pub mod Named
