mod LookExamples
mod TextExamples
mod OpcodeExamples
mod TakerExamples
mod LockExamples
mod DoubtExamples
mod HtlcExamples
