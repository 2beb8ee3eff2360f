pub mod Claims
pub mod OwnBreaks
pub mod Own
pub mod Balances
pub mod Times
pub mod Knowing
