-- The readings, call by call.
pub mod Clauses
pub mod RoomLaws
pub mod SettledLaws
pub mod ReadLaws
pub mod CallLaws
pub mod LogLaws
