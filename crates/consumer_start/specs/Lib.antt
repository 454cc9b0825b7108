pub mod Taking
pub mod Picking
pub mod Starts
