pub mod Answers
pub mod Rules
pub mod Places
pub mod Opened
pub mod Room
