-- The lines of transactions.
-- Assumes nothing.
use Prim.Native.Nat.{ℕ}
use mathlib.Core.List.{List, [], ◌++◌, ◌∷◌, append_assoc, append-nil, map}
use mathlib.Core.Path.{◌≡◌, ap₂, refl}
use native.Mathlib.Omega.{arith}
use Rattle.settlement.proofs.StatusCells.{of_open, of_paid, of_returned}
use Rattle.settlement.specs.Books.{Status, paid, pending, returned}
use Rattle.settlement.specs.Tables.{code_of, status_of}
use Rattle.text.proofs.WroteLaws.{wrote_as, wrote_then}
use Rattle.text.specs.Ascii.{bytes_of}
use Rattle.text.specs.Lines.{status_end, tx_line}
use Rattle.text.specs.Text.{decimal, field, fields, line}
use Rattle.text.specs.Wrote.{Wrote}

module _ {l l' : List ℕ} {at r : ℕ} (n : ℕ) where
  pub wrote_open : n ≡ 0 → Wrote l at (bytes_of " open\n") l' r → Wrote l at (status_end (status_of n)) l' r
  unfolding status_end field bytes_of
  wrote_open e w = rw (of_open n e) w

  pub wrote_paid : (n ≡ 0 → ⊥) → n ≡ 1 → Wrote l at (bytes_of " paid\n") l' r → Wrote l at (status_end (status_of n)) l' r
  unfolding status_end field bytes_of
  wrote_paid h e w = rw (of_paid n h e) w

  pub wrote_returned : (n ≡ 0 → ⊥) → (n ≡ 1 → ⊥) → Wrote l at (bytes_of " returned\n") l' r → Wrote l at (status_end (status_of n)) l' r
  unfolding status_end field bytes_of
  wrote_returned h k w = rw (of_returned n h k) w

tx-parts : (x : ℕ) (s : Status) → bytes_of "tx" ++ (field (decimal x) ++ status_end s) ≡ tx_line x s
unfolding tx_line line fields status_end
tx-parts x s = rw (append-nil, append_assoc (field (decimal x))) refl

pub wrote_tx : {l l1 l2 l3 : List ℕ} {at p q r : ℕ} (x : ℕ) (s : Status) → Wrote l at (bytes_of "tx") l1 p → Wrote l1 p (field (decimal x)) l2 q → Wrote l2 q (status_end s) l3 r
    → Wrote l at (tx_line x s) l3 r
wrote_tx x s u v w = wrote_as (tx-parts x s) (wrote_then u (wrote_then v w))

-- a settlement's number says which it is
pub statuses_of : (l : List Status) → map status_of (map code_of l) ≡ l
unfolding status_of
statuses_of [] = refl
statuses_of (s ∷ l) = ap₂ (λ (a : Status) (b : List Status). a ∷ b) (one s) (statuses_of l)
  where
    one : (s : Status) → status_of (code_of s) ≡ s
    one pending = of_open 0 refl
    one paid = of_paid 1 (λ e. omega arith) refl
    one returned = of_returned 2 (λ e. omega arith) (λ e. omega arith)
