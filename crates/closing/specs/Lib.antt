-- What the end of a reading promises.
pub mod Closing
pub mod Inner
