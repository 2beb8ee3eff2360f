mod Blocks
mod Deep
mod PoolExamples
