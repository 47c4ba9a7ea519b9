pub mod Passes
pub mod Sounds
