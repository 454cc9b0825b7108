pub mod Keys
pub mod Ids
pub mod Mirroring
