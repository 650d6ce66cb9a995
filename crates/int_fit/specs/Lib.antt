pub mod Fitting
pub mod Guarding
pub mod Narrowing
pub mod Wrapping
