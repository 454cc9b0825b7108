pub mod Settling
pub mod Restorable
pub mod Holding
