-- The end of a reading, call by call.
pub mod RegisterLaws
pub mod ClosingLaws
