pub mod Parts
pub mod Replies
pub mod Turns
pub mod Bytes
pub mod Theorems
pub mod DateChecks
pub mod Taken
pub mod Apart
