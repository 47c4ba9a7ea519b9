pub mod Chars
pub mod Digits
pub mod Reference
pub mod Rows
pub mod Tags
pub mod Texts
