pub mod Signing
pub mod Refusals
pub mod Programs
