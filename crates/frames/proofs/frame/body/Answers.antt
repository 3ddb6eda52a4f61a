-- The arm of a frame is given that `frame`'s answer is one, so its ends lie in the run.
-- Assumes nothing.
use mathlib.Core.Path.{◌∙◌, sym}
use native.Mathlib.Omega.{arith}
use Rattle.frames.proofs.FrameLaws.{span_is}
use Rattle.frames.proofs.frame.body.Goals as goal

pub slice_bounds-result-count : goal.slice_bounds-result-count
slice_bounds-result-count c = let s = span_is _ _ (sym c.frame.ensures ∙ c.in-Ok-Some.is) c.in-Ok-Some.field-0-is in omega arith

pub slice_bounds-result-start : goal.slice_bounds-result-start
slice_bounds-result-start c = let s = span_is _ _ (sym c.frame.ensures ∙ c.in-Ok-Some.is) c.in-Ok-Some.field-0-is in omega arith

pub slice_bounds-result-end : goal.slice_bounds-result-end
slice_bounds-result-end c = let s = span_is _ _ (sym c.frame.ensures ∙ c.in-Ok-Some.is) c.in-Ok-Some.field-0-is in omega arith
