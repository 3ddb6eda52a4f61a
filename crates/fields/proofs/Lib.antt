-- Laws that the layers above cite.
pub mod NumberLaws
pub mod StoreLaws
pub mod RowLaws
