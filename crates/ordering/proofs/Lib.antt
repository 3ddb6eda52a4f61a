-- Laws that the layers above cite, and the theorems `log_rules` and `pair_rules`.
pub mod Laws
pub mod Merge
pub mod Usable
pub mod Cong
pub mod Cases
pub mod MergePairs
pub mod PairRules
pub mod Rows
pub mod Prefix
pub mod LogSum
pub mod Whole
pub mod Log
pub mod LogRules
pub mod Clauses
