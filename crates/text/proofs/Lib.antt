pub mod Places
pub mod Numbers
pub mod Texts
pub mod Lengths
pub mod Blocks
pub mod Reports
pub mod Scans
pub mod Examples
