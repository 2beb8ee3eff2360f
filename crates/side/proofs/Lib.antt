pub mod Readings
pub mod Followed
pub mod ReadingExamples
pub mod BatchExamples
mod SpentPlaces
