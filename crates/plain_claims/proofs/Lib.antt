pub mod Taking
mod ClaimExamples
