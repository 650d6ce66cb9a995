pub mod Making
pub mod Parts
pub mod Standing
pub mod PickedLeaves
pub mod Throughout
pub mod Trying
pub mod Putting
