pub mod Walking
pub mod Following
pub mod Leaving
pub mod Keeping
pub mod Leading
