pub mod Packs
pub mod Spelled
pub mod Same
pub mod Forms
