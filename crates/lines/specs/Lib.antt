pub mod Input
pub mod Place
pub mod Output
pub mod Block
pub mod Turn
pub mod Lent
