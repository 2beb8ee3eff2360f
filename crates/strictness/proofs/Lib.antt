pub mod Steps
pub mod Naturals
pub mod Standing
pub mod Following
pub mod Unspendable
pub mod ByWay
mod ValueExamples
mod MachineExamples
mod ExactExamples
mod WaysExamples
