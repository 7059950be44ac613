pub mod Words
pub mod Lines
pub mod Fields
pub mod Answers
pub mod State
pub mod Tallies
