-- Proofs, not definitions: that leaves of a table are equal where they are the same, which the impls cite.
pub mod EndLaws
