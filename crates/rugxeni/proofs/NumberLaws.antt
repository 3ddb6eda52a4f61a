-- The ledger's numbers, one by one, and what is said.
-- Assumes nothing.
use Rattle.std.proofs.Common.{Err, Ok, Result}
use Rattle.std.specs.Result.{result_and, result_unwrap_or}
use Prim.Native.Nat.{◌-◌, ◌≤◌, min, suc, ℕ}
use lib.ListN.{get_or, length, set}
use mathlib.Core.List.{List, [], ◌∷◌}
use mathlib.Core.Path.{◌∙◌, ◌≡◌, ap, refl, sym}
use native.Mathlib.Omega.{arith}
use Rattle.admission.specs.Replies.{reply_to}
use Rattle.refusals.specs.Refusals.{Checked}
use Rattle.refusals.specs.declared.Refusal.{Refusal}
use Rattle.rugxeni.specs.Numbers.{length_or, ledger_in, number_of, numbers_of, place_of, Said, written_number, written_place}
use Rattle.state.specs.declared.ledger.Ledger.{Ledger}
use Rattle.sums.proofs.SeqLaws.{tabulate_is, written-front}
use Rattle.sums.specs.Seq.{fill, written}

pub ledger_made : (n : List ℕ) (m a g t s k : ℕ) (h : List ℕ) → m ≡ get_or n 0 0 → a ≡ get_or n 1 0 → g ≡ get_or n 2 0 → t ≡ get_or n 3 0 → s ≡ min (get_or n 4 0) 255 → k ≡ get_or n 5 0
    → h ≡ (ledger_in n).heights
    → ◌≡◌ {A = Ledger} (record { loading = record { m = m; a = a; g = g; t = t; stage = s; loaded = k }; heights = h }) (ledger_in n)
unfolding ledger_in
ledger_made n m a g t s k h e1 e2 e3 e4 e5 e6 e7 = rw (e1, e2, e3, e4, e5, e6, e7) refl

-- the heights come after six numbers
late : (l : Ledger) (k : ℕ) → get_or (numbers_of l) (suc (suc (suc (suc (suc (suc k)))))) 0 ≡ get_or l.heights k 0
late l k = refl

pub number_late : (l : Ledger) (i v : ℕ) → 6 ≤ i → v ≡ get_or l.heights (i - 6) 0 → v ≡ get_or (numbers_of l) i 0
number_late l i v h e =
    let q : i ≡ suc (suc (suc (suc (suc (suc (i - 6)))))) = omega arith in
    e ∙ sym (ap (λ (k : ℕ). get_or (numbers_of l) k 0) q ∙ late l (i - 6))

pub kept-numbers : (l : Ledger) (n d : List ℕ) → length l.heights ≡ 16 → d ≡ written n 0 22 (λ i. get_or (numbers_of l) i 0) → d ≡ fill (numbers_of l) n
kept-numbers l n d e q = q ∙ written-front n 22 _ ∙ ap (λ (k : List ℕ). fill k n) (tabulate_is (numbers_of l) 22 _ 0 (omega arith) (λ i h. refl))

-- two places, as far as the slice goes
pub two_told : (l : List ℕ) (p v : ℕ) → set (set l 0 p) 1 v ≡ fill (p ∷ v ∷ []) l
unfolding fill
two_told [] p v = refl
two_told (x ∷ []) p v = refl
two_told (x ∷ y ∷ l) p v = refl

pub said : (code at value : ℕ) (l l' l'' : List ℕ) → l' ≡ set l 0 at → l'' ≡ set l' 1 value → Said code at value code l l''
said code at value l l' l'' e q = record { returned = refl; written = q ∙ ap (λ (k : List ℕ). set k 1 value) e ∙ two_told l at value }

pub said_by : {n n' p p' v v' code : ℕ} {l l' : List ℕ} → n ≡ n' → p ≡ p' → v ≡ v' → Said n p v code l l' → Said n' p' v' code l l'
said_by e q t s = record { returned = s.returned ∙ e; written = s.written ∙ rw (q, t) refl }

pub said_as : {n n' p p' v code : ℕ} {l l' : List ℕ} → n ≡ n' → p ≡ p' → Said n p v code l l' → Said n' p' v code l l'
said_as e q s = said_by e q refl s

-- a check's answer, told with the number 0
pub said_of_and : (a : Checked) {b : Result ℕ Refusal} {code : ℕ} {l l' : List ℕ} → b ≡ result_and a (Ok 0)
    → Said (number_of (reply_to b)) (place_of (reply_to b)) (result_unwrap_or b 0) code l l' → Said (number_of (reply_to a)) (place_of (reply_to a)) 0 code l l'
said_of_and (Ok _) e s = rw e at s
said_of_and (Err r) e s = rw e at s

-- a text's length, told as that of a frame that was written
pub said_of_length : (a : Result ℕ Refusal) {code : ℕ} {l l' : List ℕ} → Said (written_number a) (written_place a) 0 code l l'
    → Said (number_of (reply_to a)) (length_or (result_unwrap_or a 0) (reply_to a)) 0 code l l'
said_of_length (Ok n) s = s
said_of_length (Err r) s = s
