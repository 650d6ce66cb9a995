pub mod Families
pub mod Fitting
pub mod Known
pub mod Knowing
pub mod Showing
