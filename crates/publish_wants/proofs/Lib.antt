pub mod Numbers
pub mod Told
mod RowsOfWants
