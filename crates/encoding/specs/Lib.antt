pub mod Body
pub mod Fits
pub mod Writing
pub mod Verdict
pub mod OneWriting
