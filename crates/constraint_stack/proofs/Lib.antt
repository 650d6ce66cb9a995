pub mod Shortening
pub mod Tightest
pub mod Covering
pub mod Holding
pub mod Choosing
pub mod Justifying
