pub mod Frame
pub mod Event
pub mod Receive
pub mod Write
pub mod Line
pub mod Sent
pub mod Scan
pub mod Explained
