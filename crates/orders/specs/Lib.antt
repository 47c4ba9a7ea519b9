pub mod Orders
pub mod ToCome
