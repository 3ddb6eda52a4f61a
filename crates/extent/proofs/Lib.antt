-- The theorems `text_fits` (Bound), with its steps, and `buffers_fit` (BuffersFit).
pub mod LogLaws
pub mod FrameLaws
pub mod OpeningLaws
pub mod Bound
pub mod BuffersFit
