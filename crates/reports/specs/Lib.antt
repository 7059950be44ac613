pub mod Mask
pub mod Due
pub mod Order
pub mod Minute
