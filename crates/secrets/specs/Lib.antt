pub mod Derivation
pub mod Buckets
pub mod Inserted
pub mod Refusals
