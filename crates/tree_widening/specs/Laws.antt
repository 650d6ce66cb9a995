-- Proofs, not definitions: the laws of affine functions as ranks that can be extrapolated, which the impl cites.
pub mod RaisingLaws
