pub mod WordPlaces
pub mod Digits
pub mod Readings
pub mod Naming
pub mod BadWords
pub mod LineWords
