pub mod Overlay
pub mod Filter
pub mod Permutation
pub mod Search
pub mod Outputs
pub mod Equal
