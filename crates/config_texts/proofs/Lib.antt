pub mod Solid
pub mod Putting
pub mod Entries
pub mod Floats
pub mod Names
pub mod StreamTexts
pub mod ConsumerTexts
