pub mod Apart
pub mod Peers
pub mod Balances
pub mod OwnScripts
pub mod OwnOutputs
pub mod OwnTokens
pub mod OwnResolved
pub mod OwnApart
pub mod OwnBalances
pub mod OwnRules
pub mod Times
pub mod Knowing
mod BalanceExamples
mod OwnExamples
