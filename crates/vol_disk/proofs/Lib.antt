pub mod Moments
pub mod Growing
mod Overlays
mod Leaving
pub mod Replays
mod Volumes
mod Rows
