-- Reading numbers and writing them: each is the inverse of the other.
-- Assumes nothing.
use Prim.Native.Nat.{◌%◌, ◌*◌, ◌+◌, ◌/◌, ◌<◌, ◌^◌, ◌≤◌, suc, zero, ℕ}
use lib.Arith.{digits_div, digits_mod, mod-mul}
use lib.Dec.{lit<}
use lib.ListN.{get_or-append, get_or-eq_default, drop, get_or, length, length-drop, take}
use lib.Seq.{drop-drop, get_or-append-add, get_or-drop, take-add}
use mathlib.Core.List.{List, [], ◌++◌, ◌∷◌}
use mathlib.Core.Path.{◌∙◌, ◌≡◌, ap, refl, sym}
use native.Mathlib.Nat.{add-mul-div_left, add-mul-mod_self_left, add-suc, add-zero, div-div-eq-div-mul, div-eq_of_lt, div-lt_iff_lt-mul, div-one, mod-add-div, mod-eq_of_lt, mod-lt, mul_assoc, not-suc-le-zero, one-le-pow, pow-suc, pow-succ', suc-add, zero-add}
use native.Mathlib.Numerals.{add-one}
use native.Mathlib.Omega.{arith}
use Rattle.fields.specs.Number.{AreBytes, le, le_bytes}
use Rattle.std.specs.Int.{byte_at, byte_worth, bytes_low_first, sum_through}

-- one byte
pub le-one : (s : List ℕ) (at : ℕ) → le 1 s at ≡ get_or s at 0
unfolding le
le-one s at = omega arith

-- past the end of the list there are zeros
pub le-past : (n : ℕ) (s : List ℕ) (at : ℕ) → length s ≤ at → le n s at ≡ 0
unfolding le
le-past zero s at h = refl
le-past (suc n) s at h = simp (get_or-eq_default s 0 h, le-past n s (suc at) (omega arith)) (omega arith)

-- a number of k + n bytes is one of k bytes and one of n bytes after them
pub le_split : (k n : ℕ) (s : List ℕ) (at : ℕ) → le (k + n) s at ≡ le k s at + 256 ^ k * le n s (at + k)
unfolding le
le_split zero n s at = simp (zero-add, add-zero) (omega arith)
le_split (suc k) n s at =
    let e = le_split k n s (suc at) in
    let e' = simp suc-add at e in
    simp (suc-add, add-suc, pow-succ', mul_assoc) (omega (arith, e'))

-- a number read in a part of the list
pub le-drop : (n : ℕ) (s : List ℕ) (from at : ℕ) → le n (drop from s) at ≡ le n s (from + at)
unfolding le
le-drop zero s from at = refl
le-drop (suc n) s from at = simp (get_or-drop, le-drop n s from (suc at), add-suc)

-- what the bytes of a number are worth together, as `from_le_bytes` sums them: what each reader does
pub le_worth : (n : ℕ) (s bytes : List ℕ) (at : ℕ) → ((k : ℕ) → k < suc n → get_or bytes k 0 ≡ get_or s (at + k) 0)
    → sum_through (λ i. byte_worth i (get_or bytes i 0)) n ≡ le (suc n) s at
le_worth zero s bytes at h = h 0 (omega arith) ∙ ap (λ (k : ℕ). get_or s k 0) (add-zero at) ∙ sym (le-one s at)
le_worth (suc n) s bytes at h =
    let front = le_worth n s bytes at (λ k lt. h k (omega arith)) in
    let last = h (suc n) (omega arith) ∙ sym (le-one s (at + suc n)) in
    let split = rw add-one at (le_split (suc n) 1 s at) in
    rw (front, last, split) (omega arith)

-- a number that lies in the first part
pub le-front : (n : ℕ) (b post : List ℕ) (at : ℕ) → at + n ≤ length b → le n (b ++ post) at ≡ le n b at
unfolding le
le-front zero b post at h = refl
le-front (suc n) b post at h = rw (get_or-append b post 0 at (omega arith), le-front n b post (suc at) (omega arith)) refl

pub length-le_bytes : (n v : ℕ) → length (le_bytes n v) ≡ n
unfolding le_bytes
length-le_bytes zero v = refl
length-le_bytes (suc n) v = ap suc (length-le_bytes n (v / 256))

pub AreBytes-drop : (n : ℕ) (s : List ℕ) → AreBytes s → AreBytes (drop n s)
AreBytes-drop n s b k = rw get_or-drop (b (n + k))

le_tail : (n x : ℕ) (s : List ℕ) (at : ℕ) → le n (x ∷ s) (suc at) ≡ le n s at
unfolding le
le_tail zero x s at = refl
le_tail (suc n) x s at = ap (λ (k : ℕ). get_or s at 0 + 256 * k) (le_tail n x s (suc at))

pub le_skip : (n : ℕ) (p s : List ℕ) (at : ℕ) → le n (p ++ s) (length p + at) ≡ le n s at
unfolding le
le_skip zero p s at = refl
le_skip (suc n) p s at = rw (get_or-append-add, ← add-suc, le_skip n p s (suc at))

-- a number past the first k bytes; one right after p
pub le_step : (n : ℕ) (p s : List ℕ) (k at : ℕ) → length p ≡ k → le n (p ++ s) (k + at) ≡ le n s at
le_step n p s k at e = rw (← e) (le_skip n p s at)

pub le-after : (n : ℕ) (p s : List ℕ) → le n (p ++ s) (length p) ≡ le n s 0
le-after n p s = rw add-zero at (le_skip n p s 0)

-- reading what was written
pub le_of_bytes : (n v : ℕ) (s : List ℕ) → v < 256 ^ n → le n (le_bytes n v ++ s) 0 ≡ v
unfolding le le_bytes
le_of_bytes zero v s h = omega (arith, h)
le_of_bytes (suc n) v s h =
    let h' = rw pow-suc at h in
    let less : v / 256 < 256 ^ n = (div-lt_iff_lt-mul (lit< tt)).1 h' in
    rw (le_tail n (v % 256) (le_bytes n (v / 256) ++ s) 0, le_of_bytes n (v / 256) s less) (mod-add-div v 256)

-- writing what was read
pub bytes_of_le : (n : ℕ) (s : List ℕ) → AreBytes s → n ≤ length s → le_bytes n (le n s 0) ≡ take n s
unfolding le le_bytes
bytes_of_le zero s b h = refl
bytes_of_le (suc n) [] b h = absurd (not-suc-le-zero h)
bytes_of_le (suc n) (x ∷ s) b h =
    let ih = bytes_of_le n s (λ k. b (suc k)) (omega arith) in
    let low : (x + 256 * le n s 0) % 256 ≡ x = add-mul-mod_self_left x 256 (le n s 0) ∙ mod-eq_of_lt (b 0) in
    let high : (x + 256 * le n s 0) / 256 ≡ le n s 0 = add-mul-div_left x (le n s 0) (lit< tt) ∙ rw (div-eq_of_lt (b 0)) (zero-add _) in
    rw (le_tail n x s 0, low, high, ih)

-- the bytes of a field are the writing of what is read there
pub piece : (n at : ℕ) (run : List ℕ) → AreBytes run → at + n ≤ length run → le_bytes n (le n run at) ≡ take n (drop at run)
piece n at run b h =
    let e = bytes_of_le n (drop at run) (AreBytes-drop at run b) (simp length-drop (omega arith)) in
    ap (le_bytes n) (sym (rw add-zero at (le-drop n run at 0))) ∙ e

-- a stretch of two parts
pub join : (n m at : ℕ) (s : List ℕ) → take n (drop at s) ++ take m (drop (at + n) s) ≡ take (n + m) (drop at s)
join n m at s = rw (take-add, drop-drop) refl

pub take-bytes : (n : ℕ) (s : List ℕ) → AreBytes s → AreBytes (take n s)
take-bytes zero s b k = lit< tt
take-bytes (suc n) [] b k = lit< tt
take-bytes (suc n) (x ∷ s) b zero = b 0
take-bytes (suc n) (x ∷ s) b (suc k) = take-bytes n s (λ i. b (suc i)) k

pub le_bytes_split : (k n v : ℕ) → le_bytes (k + n) v ≡ le_bytes k v ++ le_bytes n (v / 256 ^ k)
unfolding le_bytes
le_bytes_split zero n v = rw (zero-add, div-one)
le_bytes_split (suc k) n v =
    rw (suc-add, le_bytes_split k n (v / 256), pow-succ', div-div-eq-div-mul)

-- bytes above the lowest k do not matter
pub le_bytes_mod : (k v : ℕ) → le_bytes k (v % 256 ^ k) ≡ le_bytes k v
unfolding le_bytes
le_bytes_mod zero v = refl
le_bytes_mod (suc k) v =
    let split = mod-mul v {m = 256 ^ k} {c = 256} (one-le-pow k 256 (lit< tt)) (lit< tt) in
    let less = mod-lt v {m = 256} (lit< tt) in
    rw (pow-suc, split, digits_mod (v / 256 % 256 ^ k) less, digits_div (v / 256 % 256 ^ k) less, le_bytes_mod k (v / 256))

-- the bytes that `to_le_bytes` gives from byte i on
pub low_first : (i k v : ℕ) → bytes_low_first i k v ≡ le_bytes k (v / 256 ^ i)
unfolding le_bytes
low_first i zero v = refl
low_first i (suc k) v = rw (low_first (suc i) k v, div-div-eq-div-mul, pow-suc) (ap (λ (b : ℕ). b ∷ le_bytes k (v / (256 ^ i * 256))) (byte i))
  where
    byte : (i : ℕ) → byte_at i v ≡ v / 256 ^ i % 256
    byte zero = rw div-one refl
    byte (suc i) = refl

-- the bytes of a number as `to_le_bytes` gives them
pub written : (k v : ℕ) → bytes_low_first 0 k v ≡ le_bytes k v
written k v = low_first 0 k v ∙ ap (le_bytes k) (div-one v)
