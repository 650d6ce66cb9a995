pub mod Ranges
pub mod BoxLaws
pub mod LineRows
