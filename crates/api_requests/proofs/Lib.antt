pub mod Spelled
pub mod Dots
pub mod SpelledConsumers
pub mod Steps
pub mod ReadFields
pub mod ReadMessages
pub mod Parts
pub mod ReadAsks
pub mod ReadConsumers
pub mod Disagreeing
pub mod Requested
pub mod Plain
pub mod PlainFields
pub mod PlainMessages
pub mod PlainBodies
pub mod PlainConsumers
pub mod Refused
pub mod Answered
pub mod Unnamed
mod RowsOfRequests
mod RowsOfConsumers
