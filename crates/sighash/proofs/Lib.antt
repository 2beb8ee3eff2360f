pub mod Tokens
pub mod Witnesses
pub mod Examples
pub mod ProgramExamples
pub mod ScriptHashExamples
pub mod Parsing
