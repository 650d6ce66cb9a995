-- Proofs, not definitions: the laws of affine functions in order as ranks, which the impls cite.
pub mod PartLaws
pub mod RaisingLaws
