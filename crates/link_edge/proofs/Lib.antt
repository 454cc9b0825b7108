pub mod Told
pub use Rattle.js_base.proofs.Causes
pub mod FirstFailing
pub mod Reports
pub mod Moments
