pub mod Bounds
pub mod Growth
pub mod Asking
pub mod Laws
