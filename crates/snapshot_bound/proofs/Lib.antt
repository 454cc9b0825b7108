pub mod Growing
pub mod Quiet
pub mod Asked
pub mod Covers
pub mod Sums
pub mod RowsOfBounds
