pub mod Factors
pub mod Ways
