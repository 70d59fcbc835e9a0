pub mod Answer
pub mod Columns
pub mod Letters
pub mod Progress
