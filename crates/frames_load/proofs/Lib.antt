-- Laws that the layers above cite, and the theorem `loaded_complete`.
pub mod Clauses
pub mod LoadLaws
pub mod ProperLaws
