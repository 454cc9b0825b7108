pub mod Stages
mod Outs
pub mod Shorts
pub mod OneStream
mod Texts
