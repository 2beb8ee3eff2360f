mod Known
mod Opening
mod SecondStage
mod Walks
mod Told
mod HeightExamples
mod NameExamples
mod Models
