pub use Rattle.stream_config.specs.Defaults
pub mod Asking
pub mod MakingAt
pub mod Refusing
pub mod Walking
