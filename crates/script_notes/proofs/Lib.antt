pub mod Balanced
