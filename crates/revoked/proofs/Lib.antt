pub mod Table
pub mod Accepting
pub mod Walks
pub mod Told
pub mod Models
pub mod Collisions
mod AppendixExamples
mod DeadlineExamples
