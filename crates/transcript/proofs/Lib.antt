pub mod Owned
pub mod FieldLengths
pub mod AnswerLengths
pub mod BlockLengths
pub mod BlockSizes
pub mod StateLengths
pub mod Sizes
pub mod Examples
