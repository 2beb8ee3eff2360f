mod Noted
mod Looked
mod Reading
mod Followed
mod Claimed
pub mod Staying
mod Marked
mod SightsExamples
