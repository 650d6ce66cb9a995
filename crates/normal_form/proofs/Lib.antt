pub mod NoNegation
pub mod SameVariables
