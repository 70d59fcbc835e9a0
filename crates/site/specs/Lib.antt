pub mod Site
pub mod Values
pub mod Sited
pub mod Totals
