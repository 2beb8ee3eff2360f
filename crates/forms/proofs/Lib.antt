pub mod Pushes
pub mod Listed
pub mod Forms
pub mod ScriptExamples
pub mod Accepted
pub mod ClaimExamples
pub mod AppendixExamples
