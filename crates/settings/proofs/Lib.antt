pub mod Steps
pub mod Builds
pub mod Bics
pub mod Found
pub mod Opens
