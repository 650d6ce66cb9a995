pub mod BuildingIn
pub mod Joined
pub mod Putting
