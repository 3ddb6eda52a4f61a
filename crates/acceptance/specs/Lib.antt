-- What the functions that take an accepted block need and promise.
pub mod Judging
pub mod Taking
