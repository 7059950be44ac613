pub mod Words
pub mod Place
pub mod Numbers
pub mod Names
pub mod Reading
pub mod Arguments
