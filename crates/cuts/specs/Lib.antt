pub mod Cuts
pub mod Fields
