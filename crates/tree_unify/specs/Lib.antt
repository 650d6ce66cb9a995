pub mod Builds
pub mod Choosing
pub mod Pruned
pub mod Shapes
