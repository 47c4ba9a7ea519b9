pub mod Contents
pub mod Terms
pub mod Verdicts
pub mod Seen
pub mod Sound
