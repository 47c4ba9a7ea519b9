pub mod Tables
pub mod Headers
pub mod Read
