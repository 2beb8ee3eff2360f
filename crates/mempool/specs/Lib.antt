pub mod Mining
pub mod Reorganising
