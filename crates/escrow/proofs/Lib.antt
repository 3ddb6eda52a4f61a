-- Laws of the rules, the theorem `share_rules` among them, and of the cells that hold them; last, rows that are computed.
pub mod Fixpoint
pub mod Balance
pub mod AmountsViewOnly
pub mod Outcomes
pub mod FullView
pub mod Growth
pub mod Totals
pub mod ShareLaws
pub mod ShareRules
pub mod Clauses
pub mod AmountCells
pub mod Rows
