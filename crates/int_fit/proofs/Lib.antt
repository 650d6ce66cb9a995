pub mod Agreeing
mod Examples
pub mod Guarded
pub mod NarrowedAlike
pub mod NarrowedCounts
pub mod NarrowedValid
