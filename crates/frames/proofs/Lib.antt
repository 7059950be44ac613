pub mod Lengths
pub mod Answers
pub mod Blocks
pub mod Examples
