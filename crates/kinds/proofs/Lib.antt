pub mod Payables
