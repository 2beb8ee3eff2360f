mod Loops
mod Views
