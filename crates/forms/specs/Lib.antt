pub mod Ways
pub mod Forms
pub mod Pieces
pub mod Fillings
pub mod Claims
