pub mod Arenas
pub mod Entering
pub mod Keys
pub mod Once
pub mod Places
pub mod Roots
pub mod Tables
