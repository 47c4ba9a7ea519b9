pub mod Books
pub mod Carried
