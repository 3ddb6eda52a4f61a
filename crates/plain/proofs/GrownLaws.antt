-- Logs that have grown by a block: each of their blocks is an old one or the new one, and what the new one says.
-- Assumes nothing.
use Prim.Native.Nat.{◌%◌, ◌*◌, ◌+◌, ◌/◌, ◌<◌, ℕ}
use lib.ListN.{get_or}
use mathlib.Core.Logic.{◌⊎◌, inl, inr}
use mathlib.Core.Path.{◌∙◌, ◌≡◌, ap, ap₂}
use native.Mathlib.Decide.{dec_lt, ℕ_discrete}
use native.Mathlib.Omega.{arith}
use Rattle.escrow.specs.Outcome.{History}
use Rattle.plain.proofs.Engine.{Grown}
use Rattle.plain.specs.Logs.{Values}
use Rattle.settlement.specs.View.{no_cite}

-- block n of instance j is one of H, or the new block b
abbrev pub Which : Values → History → ℕ → ℕ → Type 0
Which b H j n = (n < H.height j) ⊎ ((j ≡ b.instance) × (n ≡ H.height b.instance))

pub split : {m : ℕ} {b : Values} {H H' : History} (G : Grown m b H H') (j n : ℕ) → j < m → n < H'.height j → Which b H j n
split {b = b} {H = H} {H' = H'} G j n l u = elim (ℕ_discrete j b.instance) [ yes q ↦ own q (dec_lt n (H.height j)) | no h ↦ inl (omega (arith, G.others j l h)) ]
  where
    own : j ≡ b.instance → Dec (n < H.height j) → Which b H j n
    own q (yes w) = inl w
    own q (no w) = inr (q, omega (arith, G.more, ap H'.height q, ap H.height q))

pub new_rank : {m j n : ℕ} {b : Values} {H H' : History} (G : Grown m b H H') → j ≡ b.instance → n ≡ H.height b.instance → H'.rank j n ≡ b.rank
new_rank {H' = H'} G e e' = ap₂ H'.rank e e' ∙ G.new_rank

pub new_entry : {m j n : ℕ} {b : Values} {H H' : History} (G : Grown m b H H') (e : ℕ) → e < m → j ≡ b.instance → n ≡ H.height b.instance → H'.entry j n e ≡ get_or b.cut e 0
new_entry {H' = H'} G e k q q' = ap₂ (λ (j n : ℕ). H'.entry j n e) q q' ∙ G.new_entry e k

pub new_cell : {m j : ℕ} {b : Values} {H H' : History} (G : Grown m b H H') (p : ℕ) → j ≡ b.instance → p / 32 ≡ H.height b.instance → H'.cell j p ≡ get_or b.cites (p % 32) no_cite
new_cell {b = b} {H = H} {H' = H'} G p e e' =
    let q : p ≡ H.height b.instance * 32 + p % 32 = omega arith in
    ap₂ H'.cell e q ∙ G.new_cell (p % 32) (omega arith)
