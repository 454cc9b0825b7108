pub mod Grounds
pub mod Kept
pub mod Lasting
pub mod Opening
pub mod Outgrown
pub mod Outlasting
pub mod Solo
