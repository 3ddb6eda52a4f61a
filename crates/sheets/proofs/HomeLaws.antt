-- Laws of `home`, the instance of an account. Beside the proof of `home_of` only they look inside it.
-- Assumes nothing.
use Prim.Native.Nat.{◌%◌, ◌<◌, ℕ}
use mathlib.Core.List.{List}
use mathlib.Core.Path.{◌∙◌, ◌≡◌, ap, sym}
use native.Mathlib.Nat.{mod-lt, mod-zero}
use Rattle.sheets.specs.Parts.{home}
use Rattle.sheets.specs.Sheet.{Sheet, sheet_from, sheet_in}
use Rattle.sheets.specs.declared.sheet.Sizes.{Sizes}

-- every account belongs to an instance
pub home_lt : (S : Sheet) → 0 < S.m → (k : ℕ) → home S k < S.m
unfolding home
home_lt S h k = mod-lt k h

-- on a sheet in its cells
module _ (b : List ℕ) (z : Sizes) (k : ℕ) where
  pub home-none : z.m ≡ 0 → k ≡ home (sheet_in b z) k
  unfolding home sheet_in sheet_from
  home-none e = sym (ap (λ (n : ℕ). k % n) e ∙ mod-zero k)

  pub home_some : (r : ℕ) → r ≡ k % z.m → r ≡ home (sheet_in b z) k
  unfolding home sheet_in sheet_from
  home_some r e = e
