pub mod Answer
pub mod Turn
pub mod Start
