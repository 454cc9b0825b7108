pub mod StreamInfos
pub mod Pages
pub mod Asking
pub mod Became
pub mod InfoCalls
