use native.Mathlib.Omega.{arith}
use borrow.Author.Tests.{tests}
use mathlib.Core.Path.{◌≡◌}
use Prim.Native.Nat.{◌≤◌, ℕ}
use Rattle.encoding.specs.Body.{cut_ok}
use Rattle.std.proofs.Common.{rules}
use Rattle.std.proofs.lemmas.Iterator.{YieldsList-from_slice, cases_from_all}
use Rattle.std.proofs.lemmas.Iterator.Consumers.{YieldsList-from_enumerate}
use Rattle.frames_write.proofs.TestLaws.{all_unused}
use Rattle.frames_write.proofs.block.cut_ok.Goals as goal

pub returns : goal.returns
unfolding cut_ok
returns c =
    all_unused c.args.m c.args.cut 16 _ (omega arith) (cases_from_all _ _ _ (λ (p : ℕ × ℕ). c.args.m ≤ p.0 → p.1 ≡ 0) (λ (p : ℕ × ℕ). (c.args.m ≤ p.0) × (p.1 ≡ 0 → ⊥))
    c.all.ensures.ran (YieldsList-from_enumerate (YieldsList-from_slice c.args.cut cc) cc) (λ x q k. search (rules, tests)) (λ x q k. search (rules, tests)))
