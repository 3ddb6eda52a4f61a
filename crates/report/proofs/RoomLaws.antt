-- Refusal 16 of the call for a report, and what its acceptance gives.
-- Assumes nothing.
use Rattle.std.proofs.Common.{Ok, Err}
use Prim.Native.Nat.{◌+◌, ◌≤◌, ℕ}
use lib.Dec.{ltb}
use lib.ListN.{drop, get_or, length}
use lib.Seq.{sets-eq}
use mathlib.Core.List.{List, [], ◌++◌, ◌∷◌}
use mathlib.Core.Path.{◌∙◌, ◌≡◌, ap, refl, sym}
use mir.Syntax.{w8}
use mir.Val.{Fits}
use native.Mathlib.Omega.{arith}
use Rattle.admission.specs.Replies.{reply_to}
use Rattle.extent.proofs.Bound.{text_fits}
use Rattle.extent.specs.Buffers.{bytes_of}
use Rattle.plain.proofs.AnswerLaws.{lent_enough, then_accepted, then_go, then_stop}
use Rattle.plain.specs.Answer.{Answer, ◌then◌, accepted, refuse, refused}
use Rattle.plain.specs.Plain.{lent_answer}
use Rattle.readings.proofs.RoomLaws.{lent-append}
use Rattle.refusals.specs.Refusals.{refusal_number, refusal_place}
use Rattle.refusals.specs.Refusals.{Checked}
use Rattle.refusals.specs.declared.Refusal.{Refusal}
use Rattle.replay.specs.Inner.{Ample}
use Rattle.replay.specs.Reading.{reading_text}
use Rattle.report.specs.Reports.{ReportFits, Reports, Spared, report_needs}
use Rattle.settlement.specs.Tables.{Buffers}
use Rattle.state.specs.State.{Kept, lengths_of}
use Rattle.text.specs.Wrote.{Wrote}

-- one buffer more, behind lists of the same length
module _ (n k : ℕ) where
  both : (needs lent : List ℕ) → length needs ≡ length lent → lent_answer (needs ++ (n ∷ [])) (lent ++ (k ∷ [])) ≡ (lent_answer needs lent then refuse (ltb k n) 16 n)
  unfolding lent_answer
  both needs lent e = sym (lent-append needs lent (n ∷ []) (k ∷ []) e) ∙ ap (λ (a : Answer). lent_answer needs lent then a) (then_accepted _)

module _ (needs lent : List ℕ) (n k : ℕ) (c : Checked) (e : length needs ≡ length lent) (q : reply_to c ≡ lent_answer needs lent) where
  pub room-refused : (x : Refusal) → c ≡ Err x → refused (refusal_number x) (refusal_place x) ≡ lent_answer (needs ++ (n ∷ [])) (lent ++ (k ∷ []))
  room-refused x h = sym (both n k needs lent e ∙ then_stop _ _ _ _ (sym q ∙ ap reply_to h))

  pub room_then : {a : Answer} → c ≡ Ok tt → a ≡ refuse (ltb k n) 16 n → a ≡ lent_answer (needs ++ (n ∷ [])) (lent ++ (k ∷ []))
  room_then h w = sym (both n k needs lent e ∙ then_go _ _ _ (sym q ∙ ap reply_to h) (sym w))

pub room_ample : (K : Kept) (W : Buffers) (k : ℕ) → accepted ≡ lent_answer report_needs (lengths_of K W ++ (k ∷ [])) → Ample K W × (262144 ≤ k)
room_ample K W k e =
    let e1 = lent_enough _ _ _ _ (sym e) in
    let e2 = lent_enough _ _ _ _ e1.1 in
    let e3 = lent_enough _ _ _ _ e2.1 in
    let e4 = lent_enough _ _ _ _ e3.1 in
    let e5 = lent_enough _ _ _ _ e4.1 in
    let e6 = lent_enough _ _ _ _ e5.1 in
    let e7 = lent_enough _ _ _ _ e6.1 in
    let e8 = lent_enough _ _ _ _ e7.1 in
    let e9 = lent_enough _ _ _ _ e8.1 in
    (record { sheet = e1.0; ranks = e2.0; cuts = e3.0; cites = e4.0; good = e5.0; counts = e6.0; table = e7.0; order = e8.0 }, e9.0)

-- ---- what the call returns

-- a text that the buffer has room for is stored whole
stored_whole : (text out out' : List ℕ) (n : ℕ) → length text ≤ length out → Wrote out 0 text out' n → (n ≡ length text) × (out' ≡ text ++ drop n out)
stored_whole text out out' n h w =
    let e : n ≡ length text = omega (arith, w.place) in
    let behind : 0 + length text ≡ n = omega arith in
    (e, w.bytes ∙ sets-eq text out 0 (omega arith) ∙ ap (λ (k : ℕ). text ++ drop k out) behind)

module _ (run : List ℕ) (K : Kept) (W : Buffers) (out : List ℕ) where
  pub reports-refused : (c : Checked) (x : Refusal) → c ≡ Err x → reply_to c ≡ lent_answer report_needs (lengths_of K W ++ (length out ∷ []))
      → Reports run K W out (refused (refusal_number x) (refusal_place x)) 0 K W out
  reports-refused c x h e = record { answered = ap reply_to (sym h) ∙ e; inside = omega arith; text = λ t. absurd (let z : ◌≡◌ {A = ℕ} 0 1 = cc in omega arith); spared = λ t. absurd (let z : ◌≡◌ {A = ℕ} 0 1 = cc in omega arith); quiet = λ f. (refl, refl, refl, refl) }

  pub reports-text : (n : ℕ) (K' : Kept) (W' : Buffers) (out' : List ℕ) → ((k : ℕ) → Fits w8 (get_or run k 0)) → accepted ≡ lent_answer report_needs (lengths_of K W ++ (length out ∷ []))
      → Wrote out 0 (reading_text run) out' n → Spared K W K' W' → Reports run K W out accepted n K' W' out'
  reports-text n K' W' out' bytes e w rest =
      let short = text_fits run (λ k. omega (arith, bytes k)) in
      let long = (room_ample K W (length out) e).1 in
      let whole = stored_whole (reading_text run) out out' n (omega arith) w in
      record { answered = e; inside = omega (arith, whole.0); text = λ t. whole; spared = λ t. rest; quiet = λ f. absurd (let z : ◌≡◌ {A = ℕ} 0 1 = cc in omega arith) }

-- ---- what a caller has to lend

pub lent_fits : ReportFits
unfolding bytes_of
lent_fits = omega arith
