mod Ranges
mod Moving
mod Ids
mod Streams
mod Holders
mod Changes
mod Picking
mod Makings
pub mod Small
mod Restored
