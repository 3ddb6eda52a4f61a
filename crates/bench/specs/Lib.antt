-- What the timed calls promise.
pub mod Bench
