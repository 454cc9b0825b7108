pub mod Splitting
pub mod Keeping
pub mod Confining
pub mod Dropping
pub mod Following
pub mod Walking
pub mod Asking
