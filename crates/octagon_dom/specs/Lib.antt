pub mod Cells
pub mod Closure
pub mod Stated
pub mod Terms
pub mod Assignments
pub mod Octagons
pub mod Laws
