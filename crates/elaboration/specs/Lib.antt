pub mod Functions
pub mod Contexts
pub mod Guards
pub mod Statements
pub mod Levels
pub mod Walking
pub mod Elaborates
