pub mod Lists
pub mod Shares
pub mod Keeps
pub mod Examples
