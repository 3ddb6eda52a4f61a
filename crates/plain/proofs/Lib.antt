-- What acceptance keeps, and that an engine which keeps to its contract follows the plain ledger.
pub mod AnswerLaws
pub mod Clauses
pub mod Engine
pub mod GrownLaws
pub mod Admits
pub mod Kept
pub mod Alike
pub mod Lists
pub mod Follow
pub mod Witness
pub mod Reading
pub mod Edges
pub mod EdgesRefusals
pub mod FrameOffers
