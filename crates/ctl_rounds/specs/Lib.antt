pub mod Covers
pub mod Bounds
pub mod Certified
pub mod Finding
pub mod Asked
pub mod Growing
