pub mod Agreeing
pub mod Alike
pub mod Classical
pub mod Duality
pub mod Ends
