-- Proofs, not definitions: that a fact which a polyhedron keeps has one proof at most.
pub mod OneProof
