pub mod Writing
mod TextExamples
