pub mod Openings
pub mod Reported
pub mod Lengths
pub mod Same
pub mod Playing
pub mod Queues
pub mod Replying
pub mod Asking
pub mod Finding
pub mod Payments
pub mod Seating
pub mod Broadcasting
pub mod Outcomes
pub mod Entered
pub mod Serving
pub mod Homing
pub mod Turns
mod ReportExamples
mod OutcomeExamples
mod BroadcastExamples
