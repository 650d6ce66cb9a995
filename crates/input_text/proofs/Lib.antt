mod Cutting
mod Filling
mod Pairs
pub mod Unique
