-- Proofs, not definitions: the laws of affine functions as ranks and of equality, which the impls cite, and the code by which lists of
-- trees are seen as lists of plans.
pub mod AffineLaws
pub mod EqualityLaws
pub mod PlanCode
pub mod FamilyCode
