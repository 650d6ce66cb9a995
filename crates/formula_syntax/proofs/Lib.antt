pub mod Completions
pub mod Sums
pub mod Parts
pub mod Words
pub mod Answering
pub mod Groups
mod Whole
mod OneTree
mod Steps
mod Example
