pub mod Taking
pub mod SameOpenings
pub mod Written
pub mod PeerTokens
pub mod LoadedAgain
pub mod Shapes
mod LoadExamples
pub mod GoingOn
pub mod Entering
