pub mod Crc
pub mod Checked
pub mod Laws
