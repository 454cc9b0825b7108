pub mod Walks
pub mod WalksBack
pub mod Picking
