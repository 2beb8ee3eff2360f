pub mod Refusals
pub mod Spelling
pub mod Number
pub mod Token
pub mod Step
pub mod Run
pub mod Clean
