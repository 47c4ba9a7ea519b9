pub mod Bytes
pub mod Cuts
pub mod Following
pub mod Printed
