-- Which case of a block's check holds.
-- Assumes nothing.
use Rattle.std.proofs.Common.{Ok, Err}
use Prim.Native.Nat.{◌*◌, ◌+◌, ◌<◌, ◌≤◌, ℕ}
use borrow.Author.Tests.{eq-eqb, eqb-true, le-ltb, lt-ltb, ltb-false, ne_eqb}
use lib.Dec.{eqb, ltb}
use lib.ListN.{length}
use mathlib.Core.Bool.{not}
use mathlib.Core.List.{List}
use mathlib.Core.Path.{◌≡◌, ap, refl}
use Rattle.fields.specs.Number.{le}
use Rattle.frames.specs.Block.{check_block}
use Rattle.refusals.proofs.CheckedLaws.{held, not_refused}
use Rattle.sums.proofs.TestLaws.{passed, took}
use Rattle.refusals.specs.declared.Refusal.TheVariants.{BodyLength, OutOfRange}

module _ (b : List ℕ) (at m : ℕ) where
  pub block-short : length b < 10 → check_block b at m ≡ Err (BodyLength at)
  unfolding check_block
  block-short h = took _ (lt-ltb _ _ h) refl

  module _ (ten : 10 ≤ length b) where
    pub block-length : (length b ≡ 10 + 2 * m + 2 * le 2 b 8 → ⊥) → check_block b at m ≡ Err (BodyLength at)
    unfolding check_block
    block-length h = passed _ (le-ltb _ _ ten) (took _ (ap not (ne_eqb _ _ h)) refl)

    module _ (due : length b ≡ 10 + 2 * m + 2 * le 2 b 8) where
      pub block-many : 32 < le 2 b 8 → check_block b at m ≡ Err (OutOfRange at)
      unfolding check_block
      block-many h = passed _ (le-ltb _ _ ten) (passed _ (ap not (eq-eqb _ _ due)) (took _ (lt-ltb _ _ h) refl))

      pub block-fine : le 2 b 8 ≤ 32 → check_block b at m ≡ Ok tt
      unfolding check_block
      block-fine h = passed _ (le-ltb _ _ ten) (passed _ (ap not (eq-eqb _ _ due)) (passed _ (le-ltb _ _ h) refl))

-- what a fine one says
pub record BlockChecked (b : List ℕ) (m : ℕ) : Type 0 where
  pub fixed : 10 ≤ length b
  pub long : length b ≡ 10 + 2 * m + 2 * le 2 b 8
  pub few : le 2 b 8 ≤ 32

pub block_checked : (b : List ℕ) (at m : ℕ) → check_block b at m ≡ Ok tt → BlockChecked b m
unfolding check_block
block_checked b at m e =
    let p = not_refused (ltb (length b) 10) _ e in
    let q = held (eqb (length b) (10 + 2 * m + 2 * le 2 b 8)) _ p.1 in
    let r = not_refused (ltb 32 (le 2 b 8)) _ q.1 in
    record { fixed = ltb-false (length b) 10 p.0; long = eqb-true (length b) (10 + 2 * m + 2 * le 2 b 8) q.0; few = ltb-false 32 (le 2 b 8) r.0 }
