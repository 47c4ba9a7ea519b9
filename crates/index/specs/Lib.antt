pub mod Order
pub mod Contents
