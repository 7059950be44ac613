pub mod Lengths
pub mod Answers
pub mod RowAdded
pub mod Blocks
pub mod Examples
