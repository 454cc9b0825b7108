pub mod Own
mod Rows
