pub mod Lists
pub mod Numbers
pub mod Kept
pub mod Owned
pub mod Answered
pub mod Runs
pub mod RowsOfSeats
