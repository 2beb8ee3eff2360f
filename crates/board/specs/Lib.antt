pub mod Order
pub mod Rule
pub mod Steps
pub mod Seats
