pub mod Derives
pub mod Faults
pub mod Laws
pub mod Expressions
