pub mod Blocks
pub mod Fixed
pub mod Frames
pub mod Layout
pub mod Reading
pub mod Rows
