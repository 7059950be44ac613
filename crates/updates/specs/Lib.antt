pub mod Line
pub mod Update
pub mod Queue
pub mod Tick
