pub mod Edits
pub mod Found
pub mod Singles
pub mod Adds
pub mod Runs
pub mod Called
