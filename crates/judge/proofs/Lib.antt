mod Items
mod Piles
mod Scans
mod NumberExamples
