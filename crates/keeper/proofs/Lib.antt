pub mod Added
pub mod Accounts
