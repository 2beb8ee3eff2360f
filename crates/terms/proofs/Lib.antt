pub mod Revealing
pub mod NumberExamples
pub mod Agreed
pub mod ProposalExamples
