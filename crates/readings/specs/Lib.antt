-- What a call for a reading promises.
pub mod Reading
pub mod Inner
