pub mod Refusals
pub mod Filling
pub mod Filled
pub mod Standing
pub mod Spends
