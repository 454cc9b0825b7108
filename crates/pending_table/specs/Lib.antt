pub mod Asked
pub mod Quiet
pub mod Trees
pub mod Table
