pub mod Placing
pub mod Replacing
pub mod Folds
