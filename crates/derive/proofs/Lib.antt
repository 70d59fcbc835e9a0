pub mod Growing
pub mod Coming
mod Interning
mod Reading
pub mod Taking
mod Joining
mod Lifting
mod Lowering
pub mod Listing
mod Siding
mod Membership
mod Stepping
mod SideStep
mod FreshStep
mod RowStep
