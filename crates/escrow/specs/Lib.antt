-- The rules of escrow, from a sheet and the instance logs, and what is claimed of the share; then what the engine's cells stand for; last, tools of the proofs.
pub mod Amounts
pub mod Outcome
pub mod Share
pub mod Report
pub mod Claim
pub mod Cells
pub mod Inner
