pub mod Refusals
pub mod Evidence
pub mod Judgement
pub mod Fitting
pub mod Opcodes
pub mod Ways
pub mod Claims
pub mod Laws
