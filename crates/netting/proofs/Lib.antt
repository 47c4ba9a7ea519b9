pub mod Totals
mod Order
mod Greatest
mod Offers
mod Shifts
mod Cuts
pub mod Choice
mod Settles
mod Mornings
