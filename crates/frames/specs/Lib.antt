pub mod Frame
pub mod Header
pub mod Balances
pub mod Block
pub mod Step
