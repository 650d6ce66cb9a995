pub mod Trees
pub mod LabelCounts
pub mod Candidates
pub mod Building
pub mod Cancelling
pub mod Asking
pub mod Blocking
