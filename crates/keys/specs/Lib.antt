pub mod Texts
pub mod Held
pub mod Orders
pub mod Same
