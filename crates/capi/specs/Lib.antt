pub mod Answers
pub mod Calls
pub mod Drops
pub mod Host
pub mod Blocks
pub mod Cuts
pub mod Statement
