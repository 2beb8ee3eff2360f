pub mod Listed
pub mod Forms
pub mod Accepting
pub mod ScriptExamples
