-- Laws of the checks.
pub mod SearchLaws
pub mod CitationLaws
pub mod EntryLaws
pub mod CiteLaws
pub mod BlockLaws
