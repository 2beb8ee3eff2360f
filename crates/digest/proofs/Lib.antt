pub mod Absorbing
pub mod Lines
pub mod OutsideVectors
