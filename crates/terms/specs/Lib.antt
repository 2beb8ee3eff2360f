pub mod Sides
pub mod Refusals
pub mod Agreement
pub mod Views
pub mod Numbers
pub mod Scripts
pub mod Bases
pub mod Proposals
