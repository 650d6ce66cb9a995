pub mod Formulas
pub mod Rows
pub mod Mirror
pub mod Parts
pub mod Systems
pub mod Satisfaction
pub mod Bisimulations
