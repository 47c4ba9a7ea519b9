mod Lowest
mod Moving
mod Opened
mod Totals
pub mod Worse
