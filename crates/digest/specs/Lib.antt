pub mod Ripemd160
pub mod Hash
pub mod Hasher
