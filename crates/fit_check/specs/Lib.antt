pub mod Leading
pub mod Ranges
pub mod Safety
