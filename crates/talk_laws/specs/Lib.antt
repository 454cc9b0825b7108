pub mod Parts
pub mod Talks
pub mod TalkLaws
pub mod Confirming
pub mod Replying
