pub mod Asked
pub mod Out
pub mod Rows
pub mod Deeds
pub mod Served
pub mod Team
