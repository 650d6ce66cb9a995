pub mod Firsts
pub mod Weights
pub mod Ladder
pub mod Names
pub mod Ahead
pub mod Finding
pub mod Valid
