pub mod Kept
pub mod Fit
mod Left
pub mod KnownShown
pub mod Placing
pub mod Numbers
pub mod Combining
pub mod Exact
pub mod Printable
pub mod Within
pub mod Narrowly
