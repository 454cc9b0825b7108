pub mod Durables
pub mod Restorable
pub mod Ranges
pub mod Folding
pub mod TimeEffects
pub mod Effects
pub mod Laws
