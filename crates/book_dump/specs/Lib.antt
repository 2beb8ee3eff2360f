pub mod Refusals
pub mod Openings
pub mod Loading
pub mod Dumping
pub mod Loaded
pub mod Refused
pub mod Again
pub mod Entering
