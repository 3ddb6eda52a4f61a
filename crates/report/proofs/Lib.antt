-- The report, step by step.
pub mod Clauses
pub mod TextLaws
pub mod FrontLaws
pub mod RoomLaws
