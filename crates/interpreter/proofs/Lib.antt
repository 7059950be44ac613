pub mod Tellings
pub mod Lent
pub mod Feeding
pub mod Ticking
pub mod Gatherings
pub mod Beginnings
pub mod ReplySizes
pub mod LineSizes
