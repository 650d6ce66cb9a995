pub mod Shut
pub mod Completeness
pub mod Narrowness
