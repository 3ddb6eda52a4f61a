-- The bodies of a header and of balances, written and read back; and read and written again.
-- Assumes nothing.
use Prim.Native.Nat.{◌*◌, ◌+◌, ◌<◌, ℕ}
use lib.ListN.{drop, get_or, length, take}
use lib.Seq.{take_all}
use mathlib.Core.List.{List, [], ◌++◌, append-nil}
use mathlib.Core.Path.{◌∙◌, ◌≡◌, ap, refl}
use native.Mathlib.Omega.{arith}
use Rattle.encoding.specs.Body.{balances_body, header_body}
use Rattle.encoding.specs.Fits.{HeaderFits}
use Rattle.fields.proofs.NumberLaws.{join, le_of_bytes, le_step, length-le_bytes, piece}
use Rattle.fields.proofs.RowLaws.{numbers-back, numbers-forth}
use Rattle.fields.specs.Number.{AreBytes, le, le_bytes}
use Rattle.fields.specs.Rows.{list_bytes}
use Rattle.frames.specs.Balances.{balances_of}
use Rattle.frames.specs.Header.{header_of}
use Rattle.sums.proofs.SeqLaws.{tabulate_ext}
use Rattle.frames.specs.declared.header.Header.{Header}

pub header-back : (h : Header) → HeaderFits h → header_of (header_body h) ≡ h
unfolding header_of header_body
header-back h s =
    let m = le_of_bytes 2 h.m (le_bytes 2 h.a ++ (le_bytes 2 h.g ++ le_bytes 2 h.t)) s.m in
    let a = le_step 2 (le_bytes 2 h.m) (le_bytes 2 h.a ++ (le_bytes 2 h.g ++ le_bytes 2 h.t)) 2 0 (length-le_bytes 2 h.m) ∙ le_of_bytes 2 h.a (le_bytes 2 h.g ++ le_bytes 2 h.t) s.a in
    let g = le_step 2 (le_bytes 2 h.m) (le_bytes 2 h.a ++ (le_bytes 2 h.g ++ le_bytes 2 h.t)) 2 2 (length-le_bytes 2 h.m)
    ∙ le_step 2 (le_bytes 2 h.a) (le_bytes 2 h.g ++ le_bytes 2 h.t) 2 0 (length-le_bytes 2 h.a) ∙ le_of_bytes 2 h.g (le_bytes 2 h.t) s.g in
    let last = le_of_bytes 2 h.t [] s.t in
    let t = le_step 2 (le_bytes 2 h.m) (le_bytes 2 h.a ++ (le_bytes 2 h.g ++ le_bytes 2 h.t)) 2 4 (length-le_bytes 2 h.m)
    ∙ le_step 2 (le_bytes 2 h.a) (le_bytes 2 h.g ++ le_bytes 2 h.t) 2 2 (length-le_bytes 2 h.a)
    ∙ le_step 2 (le_bytes 2 h.g) (le_bytes 2 h.t) 2 0 (length-le_bytes 2 h.g) ∙ (rw append-nil at last) in
    rw (m, a, g, t) refl

pub header-forth : (s : List ℕ) → AreBytes s → length s ≡ 8 → header_body (header_of s) ≡ s
unfolding header_of header_body
header-forth s b e =
    rw (piece 2 0 s b (omega arith), piece 2 2 s b (omega arith), piece 2 4 s b (omega arith), piece 2 6 s b (omega arith))
    (ap (λ (r : List ℕ). take 2 (drop 0 s) ++ (take 2 (drop 2 s) ++ r)) (join 2 2 4 s)
    ∙ ap (λ (r : List ℕ). take 2 (drop 0 s) ++ r) (join 2 4 2 s)
    ∙ join 2 6 0 s
    ∙ take_all 8 s (omega arith))

-- balances
pub balances-back : (l : List ℕ) → ((k : ℕ) → k < length l → get_or l k 0 < 18446744073709551616) → balances_of (length l) (balances_body l) ≡ l
unfolding balances_of balances_body
balances-back l h = rw append-nil at (numbers-back 8 l [] h)

pub balances-forth : (a : ℕ) (s : List ℕ) → AreBytes s → length s ≡ 8 * a → balances_body (balances_of a s) ≡ s
unfolding balances_of balances_body
balances-forth a s b e =
    ap (list_bytes (le_bytes 8) 0) (tabulate_ext a (λ k. le 8 s (8 * k)) (λ k. le 8 s (0 + 8 * k)) (λ k lt. ap (le 8 s) (zero k)))
    ∙ numbers-forth 8 a 0 s b (omega arith) ∙ take_all (8 * a) s (omega arith)
  where
    zero : (k : ℕ) → 8 * k ≡ 0 + 8 * k
    zero k = omega arith
