pub mod Storable
pub mod Parts
pub mod Known
pub mod Limits
