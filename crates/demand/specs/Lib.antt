-- Demand 3: a ledger in use, and what is claimed of it.
pub mod Chain
pub mod Claim
pub mod Exists
