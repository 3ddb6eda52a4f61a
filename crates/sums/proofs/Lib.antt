-- Laws that the layers above cite.
pub mod SumLaws
pub mod TestLaws
pub mod SeqLaws
pub mod FillLaws
pub mod LoopLaws
pub mod LeastLaws
pub mod FilledLaws
