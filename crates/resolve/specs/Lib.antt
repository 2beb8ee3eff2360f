pub mod Refusals
pub mod Signed
pub mod Known
pub mod Numbered
pub mod Due
pub mod Kinds
pub mod Preimages
