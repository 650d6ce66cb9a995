pub mod Comparing
pub mod Meanings
pub mod Faults
pub mod Walking
pub mod Refusing
pub mod Derives
pub mod FaultOf
pub mod Laws
