pub mod Parts
pub mod Programs
pub mod Deadlines
pub mod Reading
pub mod Telling
