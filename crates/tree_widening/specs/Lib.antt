pub mod Leaves
pub mod Meeting
pub mod Along
pub mod Widening
pub mod Judging
pub mod Places
pub mod Laws
