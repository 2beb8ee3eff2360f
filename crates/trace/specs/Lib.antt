pub mod Loading
pub mod Standing
pub mod Claims
pub mod Names
pub mod Looks
pub mod Weights
pub mod Sentences
pub mod Refusals
