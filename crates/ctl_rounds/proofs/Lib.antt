pub mod CoverLaws
pub mod Single
pub mod Certifying
pub mod Asking
mod Joining
pub mod Exactly
