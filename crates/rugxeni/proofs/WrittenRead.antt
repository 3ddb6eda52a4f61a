-- What the boundary's writers wrote is read back: the theorem `written_read`.
-- Assumes nothing.
use Rattle.std.proofs.Common.{Ok, Err}
use Prim.Native.Nat.{◌+◌, ◌≤◌, ℕ}
use lib.Dec.{ltb}
use lib.ListN.{drop, get_or, length, take}
use lib.Seq.{take-append_seam}
use mathlib.Core.Bool.{Bool, false, true}
use mathlib.Core.List.{List, [], ◌++◌, ◌∷◌}
use mathlib.Core.Path.{◌∙◌, ◌≡◌, ap, refl, subst, sym}
use native.Mathlib.Decide.{dec_lt}
use native.Mathlib.Nat.{zero-add}
use native.Mathlib.Omega.{arith}
use Rattle.encoding.proofs.OneWriting.{one-writing}
use Rattle.encoding.proofs.VerdictLaws.{block-counted, transaction_agreed}
use Rattle.encoding.specs.OneWriting.{Kind, OneWriting, Reads, balances_kind, block_kind, header_kind, transaction_kind, writing}
use Rattle.encoding.specs.Writing.{Wrote}
use Rattle.encoding.specs.Writing.{Written}
use Rattle.frames.specs.declared.step.Loading.{Loading}
use Rattle.refusals.specs.Refusals.{refusal_number}
use Rattle.refusals.specs.Refusals.{Checked}
use Rattle.refusals.specs.declared.Refusal.{Refusal}
use Rattle.refusals.specs.declared.Refusal.TheVariants.{AccountTwice, BadLength, BodyLength, BufferShort, CitedBefore, EntryAhead, EntryBack, KindNotDue, LogFull, NoInstance, NoPart, NoTransaction, NotNumberDue, OutOfRange, RankNotAbove, Short, SumsDiffer}
use Rattle.rugxeni.specs.Boundary.{WriteCall, block_with, counts_with, cut_with, header_with}
use Rattle.rugxeni.specs.Numbers.{ledger_in, size, written_number, written_place}
use Rattle.rugxeni.specs.WrittenRead.{ReadBack, WrittenRead}
use Rattle.sums.specs.Seq.{fill}
use Rattle.sums.specs.Test.{pick}
use Rattle.transactions_write.specs.Values.{lists_agree, transaction_with}

-- no refusal's number is 0
counted : (r : Refusal) → 1 ≤ refusal_number r
counted (Short at) = omega arith
counted (BadLength at) = omega arith
counted (KindNotDue at) = omega arith
counted (BodyLength at) = omega arith
counted (OutOfRange at) = omega arith
counted (AccountTwice at) = omega arith
counted (SumsDiffer at) = omega arith
counted NoInstance = omega arith
counted (NotNumberDue due) = omega arith
counted (RankNotAbove last) = omega arith
counted (EntryBack entry) = omega arith
counted (EntryAhead entry) = omega arith
counted (NoTransaction k) = omega arith
counted (NoPart k) = omega arith
counted (CitedBefore k) = omega arith
counted (BufferShort least) = omega arith
counted LogFull = omega arith

-- a writer's answer whose number is 0: the values were fine, there was room, and the frame is at the buffer's front
record Whole (checked : Checked) (frame out out' : List ℕ) (w : Written) : Type 0 where
  fine : checked ≡ Ok tt
  answer : w ≡ Ok (length frame)
  buffer : out' ≡ frame ++ drop (length frame) out

by_room : (t : Bool) (frame out : List ℕ) {out' : List ℕ} {w : Written} → w ≡ pick t (Err (BufferShort (length frame))) (Ok (length frame))
    → out' ≡ pick t out (frame ++ drop (length frame) out) → written_number w ≡ 0 → Whole (Ok tt) frame out out' w
unfolding pick
by_room true frame out e q z = let n : ◌≡◌ {A = ℕ} 16 0 = sym (ap written_number e) ∙ z in absurd (omega arith)
by_room false frame out e q z = record { fine = refl; answer = e; buffer = q }

whole : (checked : Checked) (frame out : List ℕ) {out' : List ℕ} {w : Written} → Wrote checked frame out out' w → written_number w ≡ 0 → Whole checked frame out out' w
whole (Ok _) frame out p z = by_room (ltb (length out) (length frame)) frame out p.answers p.buffer z
whole (Err r) frame out p z = let n : refusal_number r ≡ 0 = sym (ap written_number p.answers) ∙ z in absurd (omega (arith, counted r))

-- a call that returned 0 was lent 22 numbers
enough : {n : List ℕ} {checked : Loading → Checked} {frame : Loading → List ℕ} {out told out' told' : List ℕ} {code : ℕ}
    → WriteCall n checked frame out told code out' told' → code ≡ 0 → size ≤ length n
enough {n} c z = elim (dec_lt (length n) size) [ yes u ↦ absurd (omega (arith, (c.short u).0.returned)) | no u ↦ omega arith ]

-- one place holds the first number that is told
told_first : (p v : ℕ) (l : List ℕ) → 1 ≤ length l → get_or (fill (p ∷ v ∷ []) l) 0 0 ≡ p
unfolding fill
told_first p v [] h = absurd (omega arith)
told_first p v (x ∷ l) h = refl

-- a writer whose fine verdict gives the kind's, and whose frame is the kind's writing
module _ (n : List ℕ) (K : Kind) (v : K.Content) (checked : Loading → Checked) (frame : Loading → List ℕ) (one : OneWriting (ledger_in n).loading K)
    (fine : checked (ledger_in n).loading ≡ Ok tt → K.verdict v ≡ Ok tt) (bytes : frame (ledger_in n).loading ≡ writing K v) where
  read_back : ReadBack n K v checked frame
  read_back out told out' told' code c z fits =
      let s = (ledger_in n).loading in
      let W = writing K v in
      let (w, p, said) = c.writes (enough c z) in
      let d = whole (checked s) (frame s) out p (sym said.returned ∙ z) in
      let ok = fine d.fine in
      let buffer : out' ≡ W ++ drop (length W) out = subst (λ (x : List ℕ). out' ≡ x ++ drop (length x) out) bytes d.buffer in
      let cut : W ≡ take (length W) out' = sym (ap (take (length W)) buffer ∙ take-append_seam W (drop (length W) out)) in
      let ends : written_place w ≡ length W = ap written_place d.answer ∙ ap length bytes in
      let first = one.back v [] (drop (length W) out) fits ok in
      record {
        front = subst (λ (x : List ℕ). Reads s K x 0 (length W) v) (sym buffer) (subst (λ (e : ℕ). Reads s K (W ++ drop (length W) out) 0 e v) (zero-add (length W)) first);
        placed = λ pre post. subst (λ (x : List ℕ). Reads s K (pre ++ (x ++ post)) (length pre) (length pre + length W) v) cut (one.back v pre post fits ok);
        ends = λ h. ap (λ (x : List ℕ). get_or x 0 0) said.written ∙ told_first (written_place w) 0 told h ∙ ends;
      }

pub written_read : WrittenRead
written_read = record {
  header = λ n m a g t. read_back n (header_kind (ledger_in n).loading) (header_with m a g t) _ _ (one-writing (ledger_in n).loading).header (λ e. e) refl;
  balances = λ n l. read_back n (balances_kind (ledger_in n).loading) l _ _ (one-writing (ledger_in n).loading).balances (λ e. e) refl;
  transaction = λ n kind d c o l. read_back n (transaction_kind (ledger_in n).loading) (transaction_with kind l) _ _ (one-writing (ledger_in n).loading).transaction
      (transaction_agreed (ledger_in n).loading (lists_agree (counts_with kind d c o) l) (transaction_with kind l)) refl;
  block = λ n instance sequence rank count cut citations.
      read_back n (block_kind (ledger_in n).loading) (record { block = block_with instance sequence rank cut; cites = citations }) _ _ (one-writing (ledger_in n).loading).block
      (block-counted (ledger_in n).loading (cut_with cut) count (length citations)) refl;
}
