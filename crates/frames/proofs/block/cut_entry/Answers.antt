use borrow.Author.Rules.{rules}
use borrow.Author.Tests.{le-ltb, lt-ltb}
use mathlib.Core.Path.{◌∙◌, refl, sym}
use Rattle.sums.proofs.TestLaws.{passed, took}
use Rattle.frames.proofs.block.cut_entry.Goals as goal

pub overflow_mul-j : goal.overflow_mul-j
overflow_mul-j c = search rules

pub overflow_add-j : goal.overflow_add-j
overflow_add-j c = search rules

pub u16_at-requires : goal.u16_at-requires
u16_at-requires c = search rules

pub returns-then-j-m : goal.returns-then-j-m
returns-then-j-m c = c.u16_at.ensures ∙ sym (took _ (lt-ltb _ _ c.if-j-m.true) refl)

pub returns-else-j-m : goal.returns-else-j-m
returns-else-j-m c = sym (passed _ (le-ltb _ _ c.if-j-m.false) refl)
