-- The sheet: what its cells say, its parts, its operations, and what makes it proper.
pub mod Sheet
pub mod Parts
pub mod Operations
pub mod Proper
pub mod Inner
