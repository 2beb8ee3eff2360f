pub mod Kept
mod Rights
mod Witnessed
mod Clean
mod Opened
mod SignedExamples
