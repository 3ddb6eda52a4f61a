-- The accounts as records.
pub mod Clauses
pub mod OverLaws
pub mod BesideLaws
pub mod WorkedRun
