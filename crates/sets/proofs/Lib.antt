pub mod Digits
pub mod Counted
pub mod Turned
