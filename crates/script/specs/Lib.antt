pub mod Commands
pub mod Laws
pub mod Names
pub mod Numbers
pub mod Outcomes
pub mod Reasons
pub mod Spelling
pub mod Words
