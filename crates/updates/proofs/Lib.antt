pub mod Arrays
pub mod Slots
pub mod Room
pub mod Places
pub mod Ticks
