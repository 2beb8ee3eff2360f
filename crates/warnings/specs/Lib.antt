pub mod Parts
pub mod Looks
pub mod TextFaults
pub mod Opcodes
pub mod Takers
pub mod Locks
pub mod Doubts
pub mod Htlcs
