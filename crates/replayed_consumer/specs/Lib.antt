pub mod Replayed
pub mod Delivering
pub mod GivingUp
pub mod Storable
