pub mod Asking
pub mod Hints
