pub mod Sets
pub mod Behind
