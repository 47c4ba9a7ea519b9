mod Pieces
pub mod Puts
