pub mod Calendar
pub mod Date
pub mod Changed
