pub mod Digits
pub mod Amounts
pub mod Calendar
pub mod Currencies
pub mod Examples
