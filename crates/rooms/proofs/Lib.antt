pub mod Answering
pub mod Going
