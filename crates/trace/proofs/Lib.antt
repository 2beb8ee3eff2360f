mod Made
mod SentenceParts
mod Texts
pub mod SentenceExamples
pub mod NumberExamples
