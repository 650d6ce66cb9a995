pub mod Faults
pub mod Inlined
pub mod Laws
pub mod Levels
pub mod Moved
pub mod Placed
pub mod Starts
