pub mod Numeral
pub mod Names
pub mod AffineText
pub mod LineText
pub mod Spells
pub mod Buffer
pub mod Parts
