pub mod BuildsIn
pub mod Nodes
