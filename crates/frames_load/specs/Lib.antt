pub mod Load
pub mod Proper
