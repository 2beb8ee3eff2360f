pub mod View
pub mod Reading
