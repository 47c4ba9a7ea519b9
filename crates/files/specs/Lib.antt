pub mod Amounts
pub mod Bodies
pub mod Control
pub mod Denials
pub mod Stated
pub mod Taking
