mod Adding
pub mod Covering
