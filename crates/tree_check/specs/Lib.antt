pub mod Checking
pub mod Surveys
pub mod Rounds
pub mod Telling
pub mod Giving
pub mod Narrowing
