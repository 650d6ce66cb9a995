pub mod Quotients
pub mod Progress
pub mod JumpsOnTheWay
pub mod Stores
pub mod Front
mod Examples
pub mod Lists
pub mod Turning
pub mod FunctionLaws
pub mod OverVariables
pub mod Differences
pub mod Finding
mod CountdownExamples
