pub mod Lines
pub mod First
pub mod Listing
pub mod Lister
