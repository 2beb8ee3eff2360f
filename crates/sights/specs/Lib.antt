pub mod Sights
pub mod Origins
pub mod Marks
pub mod Deadlines
pub mod Telling
pub mod Following
