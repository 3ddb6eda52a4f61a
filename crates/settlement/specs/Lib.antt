-- Settlement in a view: the rules, then what the engine's cells stand for; last, tools of the proofs.
pub mod View
pub mod Books
pub mod Settlement
pub mod Cells
pub mod Tables
pub mod Inner
