pub mod Cuts
pub mod Given
pub mod Joins
pub mod Numbers
pub mod Pairs
pub mod Tests
pub mod TagTexts
