-- What every operation keeps of the registers, contracts keep; and there are always g registers.
-- Assumes nothing.
use Prim.Native.Nat.{suc, zero, ℕ}
use lib.ListN.{length, length-replicate, length-set, replicate}
use mathlib.Core.List.{List, [], ◌∷◌}
use mathlib.Core.Path.{◌∙◌, ◌≡◌, refl}
use Rattle.settlement.specs.Books.{Book, booked, counted, empty_book, run_all, settled, step}
use Rattle.settlement.specs.Settlement.{contracts}
use Rattle.settlement.specs.View.{Event, Rows, View, log_events, view_log}
use Rattle.sheets.specs.Operations.{Done, operate, operate_to, operated}
use Rattle.sheets.specs.Sheet.{Sheet, tx_at}
use Rattle.sums.proofs.TestLaws.{by-pick}
use Rattle.transactions.specs.Content.{Operation, operation_of}

-- what every operation keeps of the registers
module _ (S : Sheet) (P : List ℕ → Type 0) (keeps : (x k : ℕ) (r : List ℕ) → P r → P (operate (operation_of (tx_at S x).operations k) r).registers) where
  operations_keep : (x k : ℕ) (r : List ℕ) → P r → P (operate_to (tx_at S x).operations k r).registers
  unfolding operate_to
  operations_keep x zero r h = h
  operations_keep x (suc k) r h = by-pick (λ (d : Done). P d.registers) _ (λ e. keeps x k (operate_to (tx_at S x).operations k r).registers (operations_keep x k r h)) (λ e. operations_keep x k r h)

  abbrev In : Book → Type 0
  In s = P s.registers

  step_keeps : (s : Book) (e : Event) → In s → In (step S s e)
  unfolding step booked counted settled operated
  step_keeps s e h =
      by-pick In _ (λ t. by-pick In _ (λ u. by-pick In _ (λ w. operations_keep e.tx _ s.registers h) (λ w. h)) (λ u. h)) (λ t. h)

  run_keeps : (s : Book) (l : List Event) → In s → In (run_all S s l)
  unfolding run_all
  run_keeps s [] h = h
  run_keeps s (e ∷ l) h = run_keeps (step S s e) l (step_keeps s e h)

  pub registers_keep : (R : Rows) (v : View) → P (replicate S.g 0) → P (contracts S R v).registers
  unfolding contracts
  registers_keep R v h = run_keeps (empty_book S) (log_events R (view_log S R v)) h

-- as many registers as in r
abbrev Sized : List ℕ → Done → Type 0
Sized r d = length d.registers ≡ length r

operate_sized : (op : Operation) (r : List ℕ) → Sized r (operate op r)
unfolding operate
operate_sized op r =
    by-pick (Sized r) _ (λ e. refl)
    (λ e. by-pick (Sized r) _ (λ e. refl)
    (λ e. by-pick (Sized r) _ (λ e. length-set r _ _)
    (λ e. by-pick (Sized r) _ (λ e. by-pick (Sized r) _ (λ e. length-set r _ _) (λ e. refl))
    (λ e. by-pick (Sized r) _ (λ e. length-set r _ _) (λ e. refl)))))

pub registers-count : (S : Sheet) (R : Rows) (v : View) → length (contracts S R v).registers ≡ S.g
registers-count S R v = registers_keep S (λ (r : List ℕ). length r ≡ S.g) (λ x k r h. operate_sized (operation_of (tx_at S x).operations k) r ∙ h) R v (length-replicate S.g 0)
