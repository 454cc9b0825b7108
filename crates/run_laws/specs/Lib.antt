pub mod Laws
pub mod Crashes
