-- The answer to an offer, test by test, and what the call leaves.
pub mod Clauses
pub mod VerdictLaws
pub mod OfferLaws
pub mod FrameLaws
