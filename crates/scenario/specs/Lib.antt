pub mod Refusals
pub mod Seeds
pub mod Events
pub mod Scenarios
pub mod Testing
pub mod Reading
