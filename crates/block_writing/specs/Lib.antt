pub mod Planning
pub mod Runs
pub mod Writing
pub mod Plans
pub mod Dropping
pub mod Laws
