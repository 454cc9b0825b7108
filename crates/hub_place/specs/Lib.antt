pub mod Ports
pub mod Lasting
pub mod Kinds
pub mod Histories
pub mod Holds
pub mod Laws
