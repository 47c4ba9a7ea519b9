pub mod Optional
pub mod Listed
pub mod Searches
pub mod Completes
