pub mod Sequences
pub mod SubjectMaps
pub mod Wildcards
