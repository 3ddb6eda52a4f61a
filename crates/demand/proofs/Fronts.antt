-- Lists with one front, and the sheet that lies in it.
-- Assumes nothing.
use Prim.Native.Nat.{◌*◌, ◌+◌, ◌<◌, ◌≤◌, suc, zero, ℕ}
use lib.ListN.{drop, get_or, take}
use lib.Seq.{get_or-take, take-take}
use mathlib.Core.List.{List, [], ◌∷◌}
use mathlib.Core.Path.{◌∙◌, ◌≡◌, ap, ap₂, refl, sym}
use native.Mathlib.Omega.{arith}
use Rattle.fields.specs.Number.{le}
use Rattle.sheets.specs.Sheet.{balance_in, sheet_from, transaction_in}
use Rattle.sums.proofs.SeqLaws.{tabulate_ext}
use Rattle.sums.specs.Seq.{tabulate}
use Rattle.transactions.specs.Body.{transaction_of}

pub front_at : (n : ℕ) (a b : List ℕ) (k d : ℕ) → take n a ≡ take n b → k < n → get_or a k d ≡ get_or b k d
front_at n a b k d e h = sym (get_or-take n a k d h) ∙ ap (λ (l : List ℕ). get_or l k d) e ∙ get_or-take n b k d h

number-front : (w n : ℕ) (a b : List ℕ) (at : ℕ) → take n a ≡ take n b → at + w ≤ n → le w a at ≡ le w b at
unfolding le
number-front zero n a b at e h = refl
number-front (suc w) n a b at e h = ap₂ (λ (x y : ℕ). x + 256 * y) (front_at n a b at 0 e (omega arith)) (number-front w n a b (suc at) e (omega arith))

slot-front : (s w n : ℕ) (l : List ℕ) → s + w ≤ n → take w (drop s (take n l)) ≡ take w (drop s l)
slot-front zero w n l h = take-take w n l (omega arith)
slot-front (suc s) w zero l h = absurd (omega arith)
slot-front (suc s) w (suc n) [] h = refl
slot-front (suc s) w (suc n) (x ∷ l) h = slot-front s w n l (omega arith)

slots : (s w n : ℕ) (a b : List ℕ) → take n a ≡ take n b → s + w ≤ n → take w (drop s a) ≡ take w (drop s b)
slots s w n a b e h = sym (slot-front s w n a h) ∙ ap (λ (l : List ℕ). take w (drop s l)) e ∙ slot-front s w n b h

pub sheet-front : (m a g n t : ℕ) (c d : List ℕ) → n ≤ t → take (8 * a + 100 * t) d ≡ take (8 * a + 100 * t) c → sheet_from m a g n d ≡ sheet_from m a g n c
unfolding sheet_from
sheet-front m a g n t c d h f =
    let b : tabulate a (balance_in d) ≡ tabulate a (balance_in c) =
    tabulate_ext a (balance_in d) (balance_in c) (λ k u. rw (number-front 8 (8 * a + 100 * t) d c (8 * k) f (omega arith)) refl) in
    let q : tabulate n (transaction_in a d) ≡ tabulate n (transaction_in a c) =
    tabulate_ext n (transaction_in a d) (transaction_in a c) (λ x u. ap transaction_of (slots (8 * a + 100 * x) 100 (8 * a + 100 * t) d c f (omega arith))) in
    rw (b, q) refl
