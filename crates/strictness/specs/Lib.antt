pub mod Values
pub mod Machine
pub mod Balance
pub mod Words
pub mod Turns
pub mod Exact
pub mod Ways
