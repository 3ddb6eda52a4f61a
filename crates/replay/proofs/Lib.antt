-- A run's sheet opened and its blocks offered, step by step.
pub mod OpenLaws
pub mod LineLaws
pub mod LentLaws
pub mod PutLaws
pub mod CourseLaws
pub mod WorkedRun
pub mod Exists
pub mod Clauses
