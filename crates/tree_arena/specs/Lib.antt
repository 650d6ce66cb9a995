pub mod Trees
pub mod Table
pub mod Noting
pub mod Equality
pub mod Laws
