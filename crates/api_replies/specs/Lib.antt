pub mod Infos
pub mod Messages
pub mod Consumers
pub mod Refusals
pub mod Replies
pub mod PubAcks
pub mod Printed
