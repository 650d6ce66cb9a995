pub mod Calculus
pub mod Faults
pub mod Grammars
pub mod Choices
pub mod OneTree
pub mod Whole
pub mod Texts
pub mod Answering
mod Known
