pub mod Numbers
pub mod Deriving
pub mod Keeping
pub mod Storing
pub mod Examples
