-- Laws that the layers above cite.
pub mod CheckLaws
pub mod BodyLaws
pub mod Rows
