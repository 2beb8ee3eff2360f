pub mod Lists
pub mod Known
pub mod Twins
pub mod Verdicts
pub mod Counting
pub mod Filling
pub mod Recorded
pub mod Passing
pub mod Books
mod DueExamples
mod WorkedExamples
mod WorkedPassing
mod BookExamples
mod RoundsDues
mod Telling
mod Coins
mod TellingExamples
