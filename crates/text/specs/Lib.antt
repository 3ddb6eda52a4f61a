-- What the contracts of the writers cite.
pub mod Ascii
pub mod Text
pub mod Lines
pub mod Tail
pub mod Wrote
