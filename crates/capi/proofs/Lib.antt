pub mod Reading
pub mod Numbers
pub mod Blocks
pub mod Cuts
pub mod Host
pub mod Drops
