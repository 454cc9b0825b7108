pub mod Standings
pub mod Table
pub mod Refusals
pub mod Reading
pub mod Printing
pub mod Answers
pub mod Laws
