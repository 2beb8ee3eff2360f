pub mod Outcomes
pub mod Refusals
pub mod Skips
pub mod Doings
pub mod Passing
pub mod Stopping
pub mod MultiSig
pub mod Elements
