pub mod Arcs
pub mod Setting
pub mod Systems
pub mod Support
pub mod Elimination
pub mod Certificates
pub mod Soundness
