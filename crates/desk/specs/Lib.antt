pub mod Histories
pub mod Rule
pub mod Seats
pub mod Answers
pub mod Refusals
pub mod Broadcasts
