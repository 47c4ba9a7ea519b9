pub mod Bics
pub mod Accounts
pub mod Instructions
pub mod Examples
