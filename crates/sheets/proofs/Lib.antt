-- Laws that the code and the layers above cite.
pub mod HomeLaws
pub mod SheetCells
pub mod PartCells
pub mod OperationCells
pub mod ProperLaws
