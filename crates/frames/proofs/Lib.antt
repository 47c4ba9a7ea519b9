mod Addresses
mod Begins
mod Bodies
mod Contents
mod Cuts
mod Places
mod Reading
mod Rowing
