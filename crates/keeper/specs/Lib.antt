pub mod Covers
pub mod Offers
pub mod PayIns
pub mod Numbers
pub mod Runs
