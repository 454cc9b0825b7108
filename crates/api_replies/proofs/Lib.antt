pub mod StreamsWhole
pub mod ConsumersWhole
pub mod Whole
pub mod AckRows
