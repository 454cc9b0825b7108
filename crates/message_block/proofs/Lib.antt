pub mod Standing
mod Changing
