-- Proofs, not definitions: what the definitions of rows need to be well formed.
pub mod Primitive
