pub mod Answering
mod StatusExamples
mod FoundExamples
mod SpendExamples
mod FinishExamples
mod RowExamples
mod RangeExamples
mod KindExamples
pub mod Slots
pub mod FaultyClaims
pub mod Spends
pub mod Spelled
pub mod FormBytes
pub mod Commitments
pub mod Parts
pub mod SlotRows
pub mod ClaimRows
pub mod FoundClaims
pub mod SignedSpends
pub mod DerForms
pub mod Prepared
pub mod Noted
