pub mod Recorded
pub mod Published
pub mod Signed
pub mod Opening
