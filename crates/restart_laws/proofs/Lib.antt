mod Fulfilled
mod Phases
mod Older
mod Lost
mod Unlost
mod HistoryExamples
mod FulfilledExamples
