pub mod Standing
pub mod Writing
