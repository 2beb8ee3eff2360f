pub mod Same
pub mod MeaningExamples
pub mod TextExamples
