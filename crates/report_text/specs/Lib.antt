pub mod Fitting
pub mod Leaves
pub mod Ranked
pub mod Walk
pub mod Printed
pub mod Sections
