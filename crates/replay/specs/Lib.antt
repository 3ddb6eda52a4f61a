-- A run read from its bytes: its sheet, then its blocks, each with its line.
pub mod Opening
pub mod Reading
pub mod Inner
pub mod Worked
pub mod Exists
