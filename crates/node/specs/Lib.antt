pub mod Forks
pub mod Tasks
pub mod Entering
pub mod Ready
pub mod Work
