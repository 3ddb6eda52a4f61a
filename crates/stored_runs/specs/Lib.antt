-- What the program counts.
pub mod Counts
