pub mod Texts
pub mod Refusing
pub mod Passing
pub mod Fields
pub mod Valid
pub mod Parts
pub mod Agreeing
pub mod Printings
pub mod Shown
pub mod Printed
mod RowsOfConfigs
