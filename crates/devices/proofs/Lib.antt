pub mod Arrays
pub mod Rows
pub mod Places
pub mod Addresses
pub mod Values
pub mod Fields
pub mod Storing
pub mod Rules
