pub mod Forming
pub mod Claims
pub mod Reasons
pub mod Stacks
pub mod Searches
