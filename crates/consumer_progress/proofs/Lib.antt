pub mod Seqs
pub mod Dues
pub mod Filling
pub mod Kept
pub mod Sent
pub mod GivenUp
pub mod Least
pub mod Timing
