pub mod Trees
pub mod Mirror
pub mod Chains
