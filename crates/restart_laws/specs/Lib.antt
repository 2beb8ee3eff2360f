pub mod Histories
pub mod Fulfilled
