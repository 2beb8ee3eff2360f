pub mod Symbols
pub mod Meaning
pub mod Sameness
pub mod Texts
