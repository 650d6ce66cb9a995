-- Proofs, not definitions: the laws of boxes, which the impl of the trait cites.
pub mod BoxLaws
