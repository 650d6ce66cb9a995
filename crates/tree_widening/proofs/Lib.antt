pub mod Judging
pub mod Passing
pub mod Widened
