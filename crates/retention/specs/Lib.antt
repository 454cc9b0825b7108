pub mod Over
pub mod Firsts
pub mod Laws
