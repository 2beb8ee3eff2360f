pub mod Meeting
pub mod Verdicts
pub mod Refusals
pub mod Faults
