pub mod HtlcTransactions
pub mod Claims
pub mod Kinds
pub mod Reading
pub mod Heights
pub mod Names
pub mod Telling
pub mod Due
