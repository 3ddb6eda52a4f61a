-- The ledger's state, what its cells stand for, and what a call that loads the sheet promises.
pub mod Cells
pub mod State
pub mod Lengths
pub mod Loading
