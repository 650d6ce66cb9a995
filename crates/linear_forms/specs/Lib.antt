pub mod Linearising
pub mod Sides
pub mod Spreading
pub mod Meeting
pub mod Counting
pub mod Duality
