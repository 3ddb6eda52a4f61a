-- Laws of the rules (the first three), and of the cells that hold them.
pub mod ContractLaws
pub mod ViewOnly
pub mod StatusLaws
pub mod CountCells
pub mod BookCells
pub mod StatusCells
pub mod PayCells
pub mod SettleCells
