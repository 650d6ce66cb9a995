pub mod Counting
pub mod Deriving
mod Digits
pub mod Labelled
mod Lengths
mod Lexing
mod Spelled
mod Standing
mod Trees
mod Turning
