-- Laws that the layers above cite.
pub mod FrameLaws
pub mod HeaderLaws
pub mod BalancesLaws
pub mod BlockLaws
pub mod StepLaws
pub mod Rows
