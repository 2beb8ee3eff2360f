mod EventExamples
mod Examples
pub mod Tested
pub mod Values
