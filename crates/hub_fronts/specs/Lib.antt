pub mod Turns
pub mod Standing
pub mod Fronts
pub mod Stepping
pub mod Making
pub mod Owning
pub mod Naming
pub mod Laws
