pub mod Shares
pub mod Placed
pub mod Bounds
pub mod Counted
pub mod Least
pub mod Left
