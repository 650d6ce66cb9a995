pub mod Loopless
pub mod Deep
pub mod Products
pub mod Grown
pub mod Sized
pub mod Greatest
