-- Offers whose lent buffers suffice.
-- Assumes nothing.
use Prim.Native.Nat.{◌≤◌, ℕ}
use mathlib.Core.List.{List}
use mathlib.Core.Path.{◌≡◌, refl, sym}
use native.Mathlib.Omega.{arith}
use Rattle.plain.specs.Answer.{accepted}
use Rattle.plain.specs.Logs.{Logs, history_of}
use Rattle.plain.specs.Offers.{frame, offer_needs}
use Rattle.plain.specs.Plain.{answer, front_answer, idle_answer, lent_answer, next}
use Rattle.replay.specs.Inner.{Ample}
use Rattle.settlement.specs.Tables.{Buffers}
use Rattle.sheets.proofs.ProperLaws.{ProperSheet}
use Rattle.sheets.specs.Sheet.{Sheet, tx_count}
use Rattle.state.proofs.LengthLaws.{lent_end, lent_next}
use Rattle.state.specs.State.{Kept, lengths_of}

lent_by : (S : Sheet) → S.m ≤ 16 → S.a ≤ 1024 → tx_count S ≤ 1024 → (K : Kept) (W : Buffers) → Ample K W → lent_answer (offer_needs S) (lengths_of K W) ≡ accepted
unfolding offer_needs
lent_by S m a t K W A =
    sym (lent_next _ _ _ _ (omega (arith, A.sheet))
    (lent_next _ _ _ _ (omega (arith, A.ranks))
    (lent_next _ _ _ _ (omega (arith, A.cuts))
    (lent_next _ _ _ _ (omega (arith, A.cites))
    (lent_next _ _ _ _ (omega (arith, A.good))
    (lent_next _ _ _ _ (omega (arith, A.counts)) (lent_next _ _ _ _ (omega (arith, A.table)) (lent_next _ _ _ _ (omega (arith, A.order)) lent_end))))))))

pub ample_lent : (S : Sheet) → ProperSheet S → (K : Kept) (W : Buffers) → Ample K W → lent_answer (offer_needs S) (lengths_of K W) ≡ accepted
ample_lent S Q = lent_by S Q.small Q.accounts Q.few

pub least_lent : (S : Sheet) → lent_answer (offer_needs S) (offer_needs S) ≡ accepted
unfolding offer_needs
least_lent S =
    sym (lent_next _ _ _ _ (omega arith)
    (lent_next _ _ _ _ (omega arith)
    (lent_next _ _ _ _ (omega arith)
    (lent_next _ _ _ _ (omega arith)
    (lent_next _ _ _ _ (omega arith) (lent_next _ _ _ _ (omega arith) (lent_next _ _ _ _ (omega arith) (lent_next _ _ _ _ (omega arith) lent_end))))))))

module _ (S : Sheet) (lent lent' bytes : List ℕ) (at : ℕ) (e : lent_answer (offer_needs S) lent ≡ accepted) (e' : lent_answer (offer_needs S) lent' ≡ accepted) (L : Logs) where
  pub answer-lent : answer S (history_of L) (frame lent bytes at) ≡ answer S (history_of L) (frame lent' bytes at)
  unfolding answer idle_answer front_answer
  answer-lent = rw (e, e') refl

  pub next-lent : next S L (frame lent bytes at) ≡ next S L (frame lent' bytes at)
  unfolding next
  next-lent = rw answer-lent refl
