mod Remainders
mod Spelling
