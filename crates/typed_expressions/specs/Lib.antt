pub mod Grouping
pub mod Scopes
pub mod Faults
pub mod Expressions
pub mod Typing
pub mod Offsets
pub mod Walking
