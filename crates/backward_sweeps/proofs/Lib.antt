pub mod Passing
mod Staying
mod Reading
mod Trimming
mod Stepping
