pub mod Intervals
pub mod Boxes
pub mod Laws
