pub mod Popping
pub mod Progressing
pub mod Keeping
pub mod Delivered
pub mod Spent
pub mod Replaying
pub mod GivingUp
