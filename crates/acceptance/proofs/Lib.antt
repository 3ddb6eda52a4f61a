-- A block stored and judged, place by place.
pub mod Judged
pub mod Views
pub mod JudgeLaws
pub mod TakeLaws
pub mod AcceptLaws
