pub mod Quiet
pub mod Settled
pub mod Laws
