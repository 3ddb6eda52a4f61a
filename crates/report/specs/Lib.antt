-- The reading of a run as text, from the run's bytes.
pub mod Inner
pub mod Reports
