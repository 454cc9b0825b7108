pub mod Noting
pub mod Pushing
pub mod Placing
pub mod Steps
pub mod Records
