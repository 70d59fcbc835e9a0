pub mod Answering
pub mod Turning
pub mod Starting
pub mod Going
