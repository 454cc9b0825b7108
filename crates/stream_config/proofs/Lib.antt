pub mod Texts
pub mod Printings
pub mod Refusing
pub mod Named
pub mod Parts
pub mod Limits
pub mod Passing
pub mod Numbers
pub mod Valid
pub mod Printed
pub mod Defaults
mod RowsOfConfigs
