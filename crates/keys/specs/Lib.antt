pub mod Derivation
pub mod Keys
pub mod Rights
