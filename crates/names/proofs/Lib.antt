mod Apart
mod Good
mod Numerals
