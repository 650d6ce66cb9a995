pub mod Candidates
pub mod Rows
pub mod Values
