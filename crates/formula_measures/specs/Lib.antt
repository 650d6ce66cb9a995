pub mod Measures
pub mod Sizing
