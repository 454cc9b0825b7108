pub mod Settled
pub mod Answering
pub mod Serving
pub mod Removing
pub mod GivingUp
