-- The four calls that settle: what each answers, what its loop asks, and what it leaves.
-- Assumes nothing.
use Rattle.std.proofs.Common.{Ok}
use Prim.Native.Nat.{◌≤◌, ℕ}
use lib.Dec.{ltb}
use lib.ListN.{get_or, length}
use mathlib.Core.List.{List, [], ◌∷◌}
use mathlib.Core.Path.{◌∙◌, ◌≡◌, ap, ap₂, refl, sym}
use native.Mathlib.Omega.{arith}
use Rattle.admission.specs.Replies.{reply_to}
use Rattle.escrow.specs.Cells.{free_in, held_in}
use Rattle.escrow.specs.Share.{share_of}
use Rattle.ordering.specs.Table.{count_in}
use Rattle.plain.specs.Answer.{◌then◌, accepted, refuse}
use Rattle.plain.specs.Report.{accounts, filled_with, fill_needs, lists_of, registers, settlements, share, value_of, work_needs}
use Rattle.readings.proofs.ReadLaws.{answer_in, free-filled, held-filled, reads-accepted, registers-filled, share_is, statuses-filled}
use Rattle.readings.proofs.RoomLaws.{answer-none, answer-one, answer-two, next_passed, room}
use Rattle.readings.specs.Inner.{SettlesFull, places_in, settling_answer}
use Rattle.readings.specs.Reading.{Reads, report_in}
use Rattle.settlement.specs.Tables.{Buffers, status_in}
use Rattle.sheets.proofs.SheetCells.{sheet-a, sheet-count, sheet-g}
use Rattle.state.specs.State.{Kept, sizes_of}
use Rattle.sums.specs.Seq.{written}
use Rattle.refusals.specs.Refusals.{Checked}
use Rattle.sheets.specs.declared.sheet.Sizes.{Sizes}
use Rattle.state.specs.declared.ledger.Ledger.{Ledger}

-- ---- the share: no list

module _ (l : Ledger) (K : Kept) (W : Buffers) (v : Checked) (e : reply_to v ≡ settling_answer l K W) where
  pub answer-share : reply_to v ≡ answer_in l K W share []
  unfolding settling_answer work_needs fill_needs
  answer-share = answer-none l K W share (report_in l K) (reply_to v) e refl

  pub share_told : v ≡ Ok tt → (values : List ℕ) (W' : Buffers) → SettlesFull l K W values W' → (z : Sizes) → z ≡ sizes_of l → (n : ℕ) → n ≡ share_of z.t (status_in z W'.table) → Reads l K W share [] accepted n W' []
  unfolding filled_with lists_of value_of
  share_told t values W' s z ez n en = reads-accepted l K W share [] v t answer-share n (share_is l K W values W' s z ez n en) W' s.beyond [] refl

-- ---- one list: the registers, or the settlements

module _ (l : Ledger) (K : Kept) (W : Buffers) (z : Sizes) (ez : z ≡ sizes_of l) (before v : Checked) (e : reply_to before ≡ settling_answer l K W) (o : List ℕ) where
  -- where a list of n places was long enough, so were the buffers
  one_passed : (n : ℕ) → reply_to v ≡ (reply_to before then refuse (ltb (length o) n) 16 n) → v ≡ Ok tt → (settling_answer l K W ≡ accepted) × (n ≤ length o)
  one_passed n ev t = let p = next_passed (reply_to before) (reply_to v) n (length o) ev (ap reply_to t) in (sym e ∙ p.0, p.1)

  module _ (ev : reply_to v ≡ (reply_to before then refuse (ltb (length o) z.g) 16 z.g)) where
    pub answer-registers : reply_to v ≡ answer_in l K W registers (o ∷ [])
    unfolding settling_answer work_needs fill_needs
    answer-registers =
        answer-one l K W registers (report_in l K) (reply_to before) e z.g (length o) (reply_to v) ev
        (ap (λ (n : ℕ). n ∷ []) (sheet-g K.sheet (sizes_of l) ∙ ap (λ (y : Sizes). y.g) (sym ez)))

    module _ (t : v ≡ Ok tt) where
      -- what the settlement and the loop ask
      pub registers-passed : (settling_answer l K W ≡ accepted) × (z.g ≤ 64) × (z.g ≤ length o)
      registers-passed =
          let p = one_passed z.g ev t in
          (p.0, omega (arith, (room l K W p.0).header.registers, ap (λ (y : Sizes). y.g) ez), p.1)

      pub registers-told : (values : List ℕ) (W' : Buffers) → SettlesFull l K W values W' → length values ≡ 64 → (o' : List ℕ) → o' ≡ written o 0 z.g (λ j. get_or values j 0)
          → Reads l K W registers (o ∷ []) accepted 0 W' (o' ∷ [])
      unfolding filled_with lists_of value_of
      registers-told values W' s h o' eo =
          let fits : l.loading.g ≤ length values = omega (arith, registers-passed.1, ap (λ (y : Sizes). y.g) ez) in
          reads-accepted l K W registers (o ∷ []) v t answer-registers 0 refl W' s.beyond (o' ∷ [])
          (ap (λ (d : List ℕ). d ∷ []) (registers-filled l K W values W' s z ez fits o o' eo))

  module _ (ev : reply_to v ≡ (reply_to before then refuse (ltb (length o) z.t) 16 z.t)) where
    pub answer-settlements : reply_to v ≡ answer_in l K W settlements (o ∷ [])
    unfolding settling_answer work_needs fill_needs
    answer-settlements =
        answer-one l K W settlements (report_in l K) (reply_to before) e z.t (length o) (reply_to v) ev
        (ap (λ (n : ℕ). n ∷ []) (sheet-count K.sheet (sizes_of l) ∙ ap (λ (y : Sizes). y.t) (sym ez)))

    module _ (t : v ≡ Ok tt) where
      -- what the settlement and the loop ask
      pub settlements-passed : (settling_answer l K W ≡ accepted) × (z.t ≤ length o)
      settlements-passed = one_passed z.t ev t

      pub settlements-told : (values : List ℕ) (W' : Buffers) → SettlesFull l K W values W' → (o' : List ℕ) → o' ≡ written o 0 z.t (λ x. get_or W'.table x 0)
          → Reads l K W settlements (o ∷ []) accepted 0 W' (o' ∷ [])
      unfolding filled_with lists_of value_of
      settlements-told values W' s o' eo =
          reads-accepted l K W settlements (o ∷ []) v t answer-settlements 0 refl W' s.beyond (o' ∷ [])
          (ap (λ (d : List ℕ). d ∷ []) (statuses-filled l K W values W' s z ez (room l K W settlements-passed.0).table o o' eo))

-- ---- two lists of a places

module _ (l : Ledger) (K : Kept) (W : Buffers) (z : Sizes) (ez : z ≡ sizes_of l) (lent before v : Checked) (e : reply_to lent ≡ settling_answer l K W) (f h : List ℕ)
    (eb : reply_to before ≡ (reply_to lent then refuse (ltb (length f) z.a) 16 z.a)) (ev : reply_to v ≡ (reply_to before then refuse (ltb (length h) z.a) 16 z.a)) where
  pub answer-accounts : reply_to v ≡ answer_in l K W accounts (f ∷ h ∷ [])
  unfolding settling_answer work_needs fill_needs
  answer-accounts =
      answer-two l K W accounts (report_in l K) (reply_to lent) e z.a (length f) (reply_to before) eb z.a (length h) (reply_to v) ev
      (ap (λ (n : ℕ). n ∷ n ∷ []) (sheet-a K.sheet (sizes_of l) ∙ ap (λ (y : Sizes). y.a) (sym ez)))

  module _ (t : v ≡ Ok tt) where
    -- what the settlement and the loop ask
    pub accounts-passed : (settling_answer l K W ≡ accepted) × (z.a ≤ length f) × (z.a ≤ length h)
    accounts-passed =
        let p = next_passed (reply_to before) (reply_to v) z.a (length h) ev (ap reply_to t) in
        let r = next_passed (reply_to lent) (reply_to before) z.a (length f) eb p.0 in
        (sym e ∙ r.0, r.1, p.1)

    pub accounts-told : (values : List ℕ) (W' : Buffers) → SettlesFull l K W values W' → (view : List ℕ) → count_in view ≡ places_in l K.ranks → (f' h' : List ℕ)
        → (f' ≡ written f 0 z.a (free_in K.sheet z K.cites K.good view W'.table)) × (h' ≡ written h 0 z.a (held_in K.sheet z K.cites K.good view W'.table))
        → Reads l K W accounts (f ∷ h ∷ []) accepted 0 W' (f' ∷ h' ∷ [])
    unfolding filled_with lists_of value_of
    accounts-told values W' s view eview f' h' d =
        reads-accepted l K W accounts (f ∷ h ∷ []) v t answer-accounts 0 refl W' s.beyond (f' ∷ h' ∷ [])
        (ap₂ (λ (x y : List ℕ). x ∷ y ∷ []) (free-filled l K W values W' s z ez view eview f f' d.0) (held-filled l K W values W' s z ez view eview h h' d.1))
