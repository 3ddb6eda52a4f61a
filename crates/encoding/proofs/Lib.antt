-- Laws that the layers above cite, and the theorem `one-writing`.
pub mod Clauses
pub mod Lengths
pub mod SmallTrips
pub mod TransactionTrip
pub mod BlockTrip
pub mod FrameTrip
pub mod WritingLaws
pub mod VerdictLaws
pub mod OneWriting
pub mod Rows
