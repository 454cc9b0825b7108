pub mod Subjects
pub mod Pulls
pub mod Bodies
pub mod Tokens
