pub mod Heads
pub mod Counting
pub mod Order
