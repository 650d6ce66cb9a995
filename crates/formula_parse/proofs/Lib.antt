pub mod Weights
pub mod Firsts
mod LawsOf
mod Variables
mod Faulty
