pub mod Field
pub mod Row
pub mod Table
