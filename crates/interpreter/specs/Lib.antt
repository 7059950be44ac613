pub mod Limits
pub mod Done
pub mod Bytes
pub mod Ticks
pub mod Calls
pub mod Keeping
pub mod Line
