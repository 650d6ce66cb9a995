pub mod Ends
pub mod Domain
pub mod Lines
