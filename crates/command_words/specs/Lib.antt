pub mod Command
pub mod Order
pub mod Pairs
