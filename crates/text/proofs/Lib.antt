-- Laws that the proofs cite.
pub mod WroteLaws
pub mod DecimalLaws
pub mod LineLaws
pub mod StatusLaws
pub mod TailLaws
pub mod Bounds
pub mod Worked
