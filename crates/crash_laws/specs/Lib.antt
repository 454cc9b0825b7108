pub mod Timed
pub mod Beginnings
pub mod Outlasting
pub mod Opened
pub mod Laws
