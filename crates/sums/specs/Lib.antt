-- What the layers above are stated with: sums, tests, lists and folds by number. Nothing of document 01.
pub mod Sum
pub mod Test
pub mod Fold
pub mod Seq
pub mod Least
