pub mod CaseEnds
pub mod Cases
