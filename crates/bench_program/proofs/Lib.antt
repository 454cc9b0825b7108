pub mod Counted
pub mod Subjects
