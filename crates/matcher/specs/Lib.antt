pub mod Answer
pub mod Automaton
pub mod Moves
