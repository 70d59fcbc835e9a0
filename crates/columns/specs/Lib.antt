pub mod Arcs
pub mod Cursor
pub mod Kept
pub mod Lent
pub mod Row
pub mod States
pub mod Table
pub mod Work
