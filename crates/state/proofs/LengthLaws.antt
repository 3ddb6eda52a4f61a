-- Refusal 16, buffer by buffer.
-- Assumes nothing.
use Rattle.std.proofs.Common.{Err, Ok}
use Prim.Native.Nat.{◌≤◌, ℕ}
use borrow.Author.Tests.{le-ltb}
use lib.Dec.{ltb}
use mathlib.Core.Bool.{Bool, false, true}
use mathlib.Core.List.{List, [], ◌∷◌}
use mathlib.Core.Path.{◌∙◌, ◌≡◌, refl, sym}
use Rattle.admission.proofs.SearchLaws.{let_pass, turned_away}
use Rattle.admission.specs.Replies.{reply_to}
use Rattle.refusals.specs.Refusals.{Checked, refusal_number, refusal_place}
use Rattle.refusals.specs.declared.Refusal.{Refusal}
use Rattle.state.specs.Lengths.{least_lengths, needs_list}
use Rattle.state.specs.State.{Kept, sheet_of, sizes_of}
use Rattle.plain.proofs.AnswerLaws.{refuse_false, then_go}
use Rattle.plain.specs.Answer.{Answer, ◌then◌, accepted, refuse, refused}
use Rattle.plain.specs.Offers.{offer_needs}
use Rattle.plain.specs.Plain.{lent_answer}
use Rattle.sheets.proofs.SheetCells.{sheet-a, sheet-count, sheet-m}
use Rattle.state.specs.declared.ledger.Ledger.{Ledger}

-- by what the check of the first buffer returned
module _ (n k : ℕ) (needs lent : List ℕ) {c : Checked} (p : reply_to c ≡ refuse (ltb k n) 16 n) where
  pub lent_short : {r : Refusal} → c ≡ Err r → refused (refusal_number r) (refusal_place r) ≡ lent_answer (n ∷ needs) (k ∷ lent)
  unfolding lent_answer
  lent_short e = turned_away p _ e

  pub passed_next : {a : Answer} → c ≡ Ok tt → a ≡ lent_answer needs lent → a ≡ lent_answer (n ∷ needs) (k ∷ lent)
  unfolding lent_answer
  passed_next e w = let_pass p e w

-- by the lengths alone
pub lent_next : (n k : ℕ) (needs lent : List ℕ) {a : Answer} → n ≤ k → a ≡ lent_answer needs lent → a ≡ lent_answer (n ∷ needs) (k ∷ lent)
unfolding lent_answer
lent_next n k needs lent h e = sym (then_go _ _ _ (refuse_false _ 16 n (le-ltb k n h)) (sym e))

pub lent_end : accepted ≡ lent_answer [] []
unfolding lent_answer
lent_end = refl

pub lent_last : (n k : ℕ) {a : Answer} → a ≡ refuse (ltb k n) 16 n → a ≡ lent_answer (n ∷ []) (k ∷ [])
unfolding lent_answer refuse ◌then◌
lent_last n k e = e ∙ alone (ltb k n)
  where
    alone : (t : Bool) → refuse t 16 n ≡ (refuse t 16 n then accepted)
    alone true = refl
    alone false = refl

-- the formulas are those of the sheet
pub needs_are : (l : Ledger) (K : Kept) → needs_list (least_lengths l) ≡ offer_needs (sheet_of l K)
unfolding offer_needs
needs_are l K = rw (sheet-m K.sheet (sizes_of l), sheet-count K.sheet (sizes_of l), sheet-a K.sheet (sizes_of l)) refl
