pub mod Parts
pub mod Keeping
pub mod Theorems
pub mod PartSizes
pub mod Examples
