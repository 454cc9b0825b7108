pub mod Ordered
pub mod AckTexts
pub mod ConsumerTexts
