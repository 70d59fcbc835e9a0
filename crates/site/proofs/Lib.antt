pub mod Fitting
pub mod Making
pub mod Judging
pub mod Counting
pub mod Telling
pub mod Totalling
pub mod Reporting
