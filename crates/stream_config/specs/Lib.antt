pub mod Standings
pub mod Table
pub mod Reading
pub mod Printing
pub mod Answers
pub mod Defaults
pub mod Laws
