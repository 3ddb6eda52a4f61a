pub mod Content
pub mod Body
pub mod Check
