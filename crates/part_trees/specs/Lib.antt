pub mod Local
pub mod Next
pub mod Proposed
