pub mod Turn
pub mod Reported
