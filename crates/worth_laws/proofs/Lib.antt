pub mod Shares
pub mod Bounds
pub mod Fees
pub mod Counted
pub mod Due
pub mod Staged
pub mod Least
pub mod Left
pub mod Samples
mod ShareExamples
mod BoundExamples
mod CountedExamples
mod LeastExamples
