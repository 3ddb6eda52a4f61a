-- The theorem `demand_3` (Demand3), and its steps.
pub mod Fronts
pub mod Lengths
pub mod Replies
pub mod Opened
pub mod Steps
pub mod Anew
pub mod Demand3
pub mod Exists
