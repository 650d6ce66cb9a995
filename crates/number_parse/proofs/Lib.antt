pub mod Digits
pub mod Hyphens
