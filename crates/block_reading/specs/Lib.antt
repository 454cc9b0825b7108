pub mod Standing
pub mod Damage
pub mod Reading
pub mod Laws
