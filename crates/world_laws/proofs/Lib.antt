pub mod Caring
mod CaringExamples
