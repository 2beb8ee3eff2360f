pub mod Adding
pub mod Releases
pub mod Turns
pub mod Same
