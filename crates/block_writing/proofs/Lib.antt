pub mod Messages
pub mod Runs
pub mod Written
pub mod Plans
pub mod Commits
