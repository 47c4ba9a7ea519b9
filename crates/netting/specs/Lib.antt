pub mod Sums
pub mod Payments
pub mod Selections
pub mod Steps
pub mod Selected
pub mod Outcomes
pub mod Laws
pub mod Mornings
