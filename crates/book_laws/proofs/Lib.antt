pub mod Lists
pub mod Expiries
pub mod Fields
pub mod Complete
pub mod Released
pub mod Keeping
pub mod Received
pub mod Samples
pub mod Going
pub mod Awaiting
pub mod Books
mod HoldingExamples
mod CareExamples
pub mod ReceivedExamples
pub mod KeptClaims
pub mod RoundsExamples
mod AwaitingExamples
mod RoundsWorth
pub mod RoundsTokens
pub mod RoundsChains
pub mod RoundsReleases
pub mod RoundsStages
pub mod RoundsEnds
mod RoundsOwn
