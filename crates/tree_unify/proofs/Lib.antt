pub mod Building
pub mod Meeting
mod Parting
pub mod Asking
pub mod Cutting
