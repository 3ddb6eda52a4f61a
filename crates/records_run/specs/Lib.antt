-- What the program's own functions promise.
pub mod Blank
