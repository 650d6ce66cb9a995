pub mod Parts
pub mod Ordinals
pub mod Raising
pub mod Laws
pub mod Systems
pub mod Ends
pub mod Families
pub mod Jumps
