pub mod Among
pub mod Deciding
pub mod Undoing
