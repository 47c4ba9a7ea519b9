pub mod Some
pub mod Placed
