pub mod Progresses
pub mod Sending
pub mod Ending
pub mod GivingUp
