pub mod Window
pub mod Known
pub mod Mirrors
