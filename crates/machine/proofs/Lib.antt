pub mod Past
pub mod Reversing
pub mod MultiSigs
pub mod Choosing
