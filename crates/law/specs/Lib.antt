pub mod History
pub mod Runs
pub mod Laws
