pub mod Lists
pub mod Assignments
pub mod Laws
pub mod Polyhedra
