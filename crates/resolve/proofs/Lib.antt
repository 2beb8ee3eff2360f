mod Knowing
mod TokenLists
mod Standing
mod Accepting
mod Pushing
mod Numbering
mod DueExamples
mod KnownExamples
