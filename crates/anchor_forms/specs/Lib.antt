pub mod Scripts
pub mod Ways
pub mod Forms
pub mod Pieces
pub mod Penalties
