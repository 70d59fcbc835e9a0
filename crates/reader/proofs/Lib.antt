pub mod Leaf
pub mod Laid
pub mod Stepped
pub mod Answers
pub mod Pair
pub mod Stars
pub mod Whole
