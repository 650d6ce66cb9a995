pub mod Moving
pub mod Picking
pub mod Before
pub mod Claiming
pub mod Remaking
