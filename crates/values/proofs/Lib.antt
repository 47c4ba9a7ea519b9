mod Zeros
mod Numbers
mod Reading
mod Writing
mod Tens
mod Months
