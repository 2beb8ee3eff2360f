mod Turns
mod Calls
mod Begun
mod Ends
pub mod EnforcementExamples
pub mod StepExamples
pub mod Whole
mod Inboxes
mod Fitting
mod Fillings
mod Growing
mod Unmade
mod Sourced
mod Recorded
mod Found
mod Sides
pub mod Kept
pub mod Moments
pub mod Plays
pub mod Answering
pub mod Sending
pub mod Releases
pub mod Keeps
pub mod Played
pub mod Readings
pub mod QuietBlocks
pub mod Grants
pub mod Opened
pub mod Keyed
mod OpeningExamples
mod EndsExamples
mod Revealed
mod TwoEnds
mod Recordings
mod FromRecords
mod Takes
mod Told
pub mod Closes
