pub mod Completions
pub mod Expressions
pub mod Statements
pub mod Calling
pub mod Programs
pub mod Words
pub mod Answering
pub mod Loops
pub mod Whole
pub mod OneTree
pub mod Standing
mod Steps
