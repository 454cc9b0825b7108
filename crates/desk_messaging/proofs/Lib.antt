pub mod Published
mod Publishes
pub mod Told
