pub mod Lists
pub mod Loop
pub mod Numbers
pub mod Counts
pub mod Parts
pub mod Whole
pub mod Witnesses
pub mod Examples
