-- From cells to logs: what a stored and judged block leaves; lengths, and what is left of the working buffers.
pub mod Clauses
pub mod Engine
pub mod Grows
pub mod Judging
pub mod OnCells
pub mod WorkLaws
pub mod LengthLaws
pub mod LoadSheet
