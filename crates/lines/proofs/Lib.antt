pub mod Decimal
pub mod Putting
pub mod Taking
pub mod WholeLine
pub mod Apart
pub mod Waiting
pub mod Settled
