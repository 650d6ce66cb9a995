pub mod Plain
pub mod Levels
pub mod Building
pub mod Refusals
pub mod Stopping
pub mod Within
pub mod Doing
