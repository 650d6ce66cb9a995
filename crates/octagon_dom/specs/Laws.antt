-- Proofs, not definitions: the laws of octagons, which the impl of the trait cites.
pub mod LeastEnds
pub mod Members
pub mod Voids
pub mod Rows
