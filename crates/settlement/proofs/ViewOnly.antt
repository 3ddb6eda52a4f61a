-- Settlement depends only on what the view holds: rows that a view cannot tell apart have the same log, registers and statuses
-- (`view_log_same`, `contracts_same`, `status_same`).
-- Assumes nothing.
use Prim.Native.Nat.{◌*◌, ◌+◌, ◌/◌, ◌<◌, ◌≤◌, suc, zero, ℕ}
use lib.Dec.{eqb, ltb}
use mathlib.Core.List.{List, [], ◌++◌, ◌∷◌, append_assoc}
use mathlib.Core.Path.{◌∙◌, ◌≡◌, ap, ap₂, refl, sym}
use native.Mathlib.Nat.{add-zero}
use native.Mathlib.Omega.{arith}
use Rattle.ordering.proofs.Cong.{log_cong}
use Rattle.ordering.proofs.LogSum.{log_sum_le, log_sum}
use Rattle.ordering.proofs.Prefix.{Within, log_within}
use Rattle.ordering.specs.Order.{Ref, global_log}
use Rattle.settlement.proofs.ContractLaws.{event_sum, event_sum_append}
use Rattle.settlement.specs.Books.{Book, Status, empty_book, paid, pending, returned, run_all}
use Rattle.settlement.specs.Settlement.{cited, contracts, failed, is_cite, is_fail, payment, status}
use Rattle.settlement.specs.View.{Event, Rows, View, block_events, event_at, log_events, view_log, view_sum}
use Rattle.sheets.specs.Parts.{is_contract, parts}
use Rattle.sheets.specs.Sheet.{Sheet, tx_count}
use Rattle.sums.proofs.SeqLaws.{tabulate_ext}
use Rattle.sums.proofs.SumLaws.{sum_ext, sum_le, sum_mono, sum_rows}
use Rattle.sums.specs.Seq.{All, tabulate}
use Rattle.sums.specs.Sum.{sum_to}
use Rattle.sums.specs.Test.{pick}

-- v and v' hold the same places, and R and R' have the same there
pub record Same (m : ℕ) (v v' : View) (R R' : Rows) : Type 0 where
  pub places : (j : ℕ) → j < m → v j ≡ v' j
  pub ranks : (j n : ℕ) → j < m → n < v j / 32 → R.rank j n ≡ R'.rank j n
  pub cells : (j p : ℕ) → j < m → p < v j → R.cell j p ≡ R'.cell j p
  pub goods : (j p : ℕ) → j < m → p < v j → R.good j p ≡ R'.good j p

module _ (S : Sheet) (some : 0 < S.m) (v v' : View) (R R' : Rows) (same : Same S.m v v' R R') where
  event_same : (j p : ℕ) → j < S.m → p < v j → event_at R j p ≡ event_at R' j p
  unfolding event_at
  event_same j p l u = λ i. record { tx = same.cells j p l u i; good = same.goods j p l u i }

  pub view_sum_same : (w : Event → ℕ) → view_sum S R v w ≡ view_sum S R' v' w
  unfolding view_sum
  view_sum_same w = sum_ext S.m _ _ (λ j l. sum_ext (v j) _ _ (λ p u. ap w (event_same j p l u)) ∙ ap (λ (n : ℕ). sum_to n (λ p. w (event_at R' j p))) (same.places j l))

  log_events_same : (l : List Ref) → All (Within S.m (λ j. v j / 32)) l → log_events R l ≡ log_events R' l
  unfolding log_events block_events
  log_events_same [] h = refl
  log_events_same (b ∷ l) h =
      ap₂ ◌++◌ (tabulate_ext 32 _ _ (λ q u. event_same b.instance (b.index * 32 + q) h.0.0 (inside q u))) (log_events_same l h.1)
    where
      inside : (q : ℕ) → q < 32 → b.index * 32 + q < v b.instance
      inside q u = omega (arith, h.0.1)

  pub view_log_same : view_log S R v ≡ view_log S R' v'
  unfolding view_log
  view_log_same = log_cong S.m R.rank R'.rank (λ j. v j / 32) (λ j. v' j / 32) (λ j l. ap (λ (n : ℕ). n / 32) (same.places j l)) same.ranks some

  -- registers, and what the contracts come to
  pub contracts_same : contracts S R v ≡ contracts S R' v'
  unfolding contracts
  contracts_same =
      ap (run_all S (empty_book S))
      (log_events_same (view_log S R v) (unfold view_log in log_within S.m R.rank (λ j. v j / 32)) ∙ ap (log_events R') view_log_same)

  -- the status of every transaction
  pub status_same : (x : ℕ) → status S R v x ≡ status S R' v' x
  unfolding status payment cited failed
  status_same x =
      ap₂ (λ (a b : Status). pick (ltb x (tx_count S)) (pick (is_contract S x) a b) pending) (ap (λ (s : Book). s.status x) contracts_same)
      (ap₂ (λ (f c : ℕ). pick (eqb f 0) (pick (eqb c (parts S x)) paid pending) returned) (view_sum_same (is_fail x)) (view_sum_same (is_cite x)))

-- ---- sums over the log are at most those over the view

tabulate_sum : (w : Event → ℕ) (n : ℕ) (f : ℕ → Event) → event_sum w (tabulate n f) ≡ sum_to n (λ q. w (f q))
unfolding tabulate sum_to event_sum
tabulate_sum w zero f = refl
tabulate_sum w (suc n) f = event_sum_append w (tabulate n f) _ ∙ ap₂ ◌+◌ (tabulate_sum w n f) (add-zero _)

log_events_sum : (R : Rows) (w : Event → ℕ) (l : List Ref) → event_sum w (log_events R l) ≡ log_sum (λ j n. sum_to 32 (λ q. w (event_at R j (n * 32 + q)))) l
unfolding log_events event_sum log_sum block_events
log_events_sum R w [] = refl
log_events_sum R w (b ∷ l) = event_sum_append w (block_events R b) (log_events R l) ∙ ap₂ ◌+◌ (tabulate_sum w 32 _) (log_events_sum R w l)

pub log_events-append : (R : Rows) (l l' : List Ref) → log_events R (l ++ l') ≡ log_events R l ++ log_events R l'
unfolding log_events
log_events-append R [] l' = refl
log_events-append R (b ∷ l) l' = ap (λ (z : List Event). block_events R b ++ z) (log_events-append R l l') ∙ sym (append_assoc (block_events R b) (log_events R l) (log_events R l'))

pub log-le_view : (S : Sheet) → S.m ≤ 16 → (R : Rows) (v : View) (w : Event → ℕ) → event_sum w (log_events R (view_log S R v)) ≤ view_sum S R v w
unfolding view_log view_sum
log-le_view S small R v w =
    let g : ℕ → ℕ → ℕ = λ j n. sum_to 32 (λ q. w (event_at R j (n * 32 + q))) in
    let a : log_sum g (global_log S.m R.rank (λ j. v j / 32)) ≤ sum_to S.m (λ j. sum_to (v j / 32) (g j)) = log_sum_le S.m small R.rank (λ j. v j / 32) g in
    let b : sum_to S.m (λ j. sum_to (v j / 32) (g j)) ≤ sum_to S.m (λ j. sum_to (v j) (λ p. w (event_at R j p))) =
    sum_le S.m _ _ (λ j l. rw (sum_rows 32 (v j / 32) (λ p. w (event_at R j p))) (sum_mono (v j / 32 * 32) (v j) _ (omega arith))) in
    omega (arith, log_events_sum R w (global_log S.m R.rank (λ j. v j / 32)))
