pub mod Holdings
pub mod Keeping
pub mod Received
pub mod Books
pub mod Awaiting
