mod Amounts
mod Invariant
mod Steps
mod Runs
mod Mornings
