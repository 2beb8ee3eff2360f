pub mod Due
pub mod Reading
pub mod Following
pub mod Batches
pub mod Marks
