pub mod Beats
pub mod Deliveries
pub mod Parting
