pub mod Checking
pub mod Spread
pub mod Walk
pub mod Answered
pub mod Judging
