pub mod Counts
pub mod Feed
pub mod Block
pub mod Cutting
pub mod Parts
pub mod Reach
pub mod Answer
