mod Unwinding
mod Ways
mod Paths
pub mod Standing
mod Greatest
pub mod Replacing
mod Gathering
pub mod Comparing
pub mod Lending
mod Marking
