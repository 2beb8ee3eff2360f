pub mod Parts
pub mod Fields
pub mod Refusals
pub mod Spelling
pub mod Reading
pub mod Hashing
