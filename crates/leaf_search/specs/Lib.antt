pub mod Walks
pub mod Arcs
pub mod Operands
pub mod Parts
pub mod Leaves
pub mod Ahead
