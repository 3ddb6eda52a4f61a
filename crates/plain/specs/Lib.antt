-- The plain ledger, what is read of it, and the edges.
pub mod Answer
pub mod Logs
pub mod Offers
pub mod Plain
pub mod Early
pub mod Report
pub mod Edges
pub mod EdgesShare
pub mod EdgesFurther
pub mod EdgesRefusals
pub mod EdgesFull
