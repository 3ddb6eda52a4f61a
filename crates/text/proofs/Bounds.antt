-- How long lines and what follows the blocks can get, so that a buffer of a fixed size suffices.
-- Assumes nothing.
use Prim.Native.Nat.{◌*◌, ◌+◌, ◌<◌, ◌^◌, ◌≤◌, suc, ℕ}
use lib.ListN.{get_or-eq_default, get_or, length, length-append, length-map, length-take, take}
use lib.Seq.{get_or-take}
use mathlib.Core.List.{List, [], ◌∷◌, map, zip}
use mathlib.Core.Path.{◌≡◌, refl, sym}
use native.Mathlib.Decide.{dec_lt}
use native.Mathlib.Nat.{le_trans, mul-le-mul_left, mul-suc}
use native.Mathlib.Omega.{arith}
use Rattle.ordering.specs.Order.{Ref}
use Rattle.plain.specs.Report.{Report, lists_of, value_of}
use Rattle.settlement.specs.Books.{Status, paid, pending, returned}
use Rattle.settlement.specs.Tables.{code_of, status_of}
use Rattle.text.proofs.DecimalLaws.{decimal-short}
use Rattle.text.proofs.TailLaws.{codes_are, length_zip, tail_of, zip_at}
use Rattle.text.specs.Ascii.{bytes_of}
use Rattle.text.specs.Lines.{account_line, log_line, ok_line, refused_line, register_line, run_line, share_line, tx_line}
use Rattle.text.specs.Tail.{account_lines, code_lines, lines_from, lists_text, number_lines, pair_lines, register_lines, tail_text}
use Rattle.text.specs.Text.{decimal, field, fields, line}

field-short : (k n : ℕ) → n < 10 ^ suc k → length (field (decimal n)) ≤ suc (suc k)
unfolding field
field-short k n h = omega (arith, decimal-short k n h)

-- fields of 8, 16, 32 and 64 bits, and of the numbers of accounts, transactions and registers
field_100 : (n : ℕ) → n < 100 → length (field (decimal n)) ≤ 3
field_100 n h = field-short 1 n (omega arith)

field_8 : (n : ℕ) → n < 256 → length (field (decimal n)) ≤ 4
field_8 n h = field-short 2 n (omega arith)

field_1024 : (n : ℕ) → n < 1024 → length (field (decimal n)) ≤ 5
field_1024 n h = field-short 3 n (omega arith)

field_16 : (n : ℕ) → n < 65536 → length (field (decimal n)) ≤ 6
field_16 n h = field-short 4 n (omega arith)

field_32 : (n : ℕ) → n < 4294967296 → length (field (decimal n)) ≤ 11
field_32 n h = field-short 9 n (omega arith)

field_64 : (n : ℕ) → n < 18446744073709551616 → length (field (decimal n)) ≤ 21
field_64 n h = field-short 19 n (omega arith)

-- ---- the lines

pub run_short : (m a g t : ℕ) → m < 65536 → a < 65536 → g < 65536 → t < 65536 → length (run_line m a g t) ≤ 28
unfolding run_line line fields bytes_of
run_short m a g t hm ha hg ht = simp length-append (omega (arith, field_16 m hm, field_16 a ha, field_16 g hg, field_16 t ht))

pub ok_short : (i s : ℕ) → i < 65536 → s < 65536 → length (ok_line i s) ≤ 15
unfolding ok_line line fields bytes_of
ok_short i s hi hs = simp length-append (omega (arith, field_16 i hi, field_16 s hs))

pub refused-short : (n p : ℕ) → n < 256 → p < 18446744073709551616 → length (refused_line n p) ≤ 33
unfolding refused_line line fields bytes_of
refused-short n p hn hp = simp length-append (omega (arith, field_8 n hn, field_64 p hp))

log-short : (i s : ℕ) → i < 65536 → s < 65536 → length (log_line i s) ≤ 16
unfolding log_line line fields bytes_of
log-short i s hi hs = simp length-append (omega (arith, field_16 i hi, field_16 s hs))

tx-short : (x : ℕ) (s : Status) → x < 1024 → length (tx_line x s) ≤ 17
unfolding tx_line line fields field bytes_of
tx-short x pending h = simp length-append (omega (arith, field_1024 x h))
tx-short x paid h = simp length-append (omega (arith, field_1024 x h))
tx-short x returned h = simp length-append (omega (arith, field_1024 x h))

account-short : (k f h : ℕ) → k < 1024 → f < 18446744073709551616 → h < 18446744073709551616 → length (account_line k f h) ≤ 55
unfolding account_line line fields bytes_of
account-short k f h lk lf lh = simp length-append (omega (arith, field_1024 k lk, field_64 f lf, field_64 h lh))

register-short : (r v : ℕ) → r < 100 → v < 4294967296 → length (register_line r v) ≤ 23
unfolding register_line line fields bytes_of
register-short r v hr hv = simp length-append (omega (arith, field_100 r hr, field_32 v hv))

share-short : (s : ℕ) → s < 4294967296 → length (share_line s) ≤ 17
unfolding share_line line fields bytes_of
share-short s h = simp length-append (omega (arith, field_32 s h))

-- ---- all of them

-- every member is below b
abbrev pub Below : ℕ → List ℕ → Type 0
Below b l = (k : ℕ) → get_or l k 0 < b

-- lines of at most w bytes each
lines_short : {A : Type 0} (w : ℕ) (f : ℕ → A → List ℕ) (s : ℕ) (l : List A) (d : A) → ((j k : ℕ) → k < length l → j ≡ s + k → length (f j (get_or l k d)) ≤ w)
    → length (lines_from f s l) ≤ w * length l
unfolding lines_from
lines_short w f s [] d h = omega arith
lines_short w f s (x ∷ l) d h =
    let e = mul-suc w (length l) in
    let first = h s 0 (omega arith) (omega arith) in
    let others = lines_short w f (suc s) l d (λ j k u q. h j (suc k) (omega arith) (omega arith)) in
    simp length-append (omega arith)

pairs_short : (w : ℕ) (f : ℕ → ℕ → ℕ → List ℕ) (a b : List ℕ) → ((k : ℕ) → k < length a → length (f k (get_or a k 0) (get_or b k 0)) ≤ w) → length (pair_lines f a b) ≤ w * length a
unfolding pair_lines
pairs_short w f a b h =
    let n = length_zip a b in
    let each = lines_short w (λ i p. f i p.0 p.1) 0 (zip a b) (0, 0)
    (λ j k u e. let q : j ≡ k = omega arith in rw (q, zip_at a b k (omega arith) (omega arith)) (h k (omega arith))) in
    le_trans each (mul-le-mul_left w (omega arith))

pub logs_short : (i s : List ℕ) → Below 65536 i → Below 65536 s → length (number_lines i s) ≤ 16 * length i
unfolding number_lines
logs_short i s hi hs = pairs_short 16 (λ k. log_line) i s (λ k u. log-short _ _ (hi k) (hs k))

pub txs_short : (c : List ℕ) → length c ≤ 1024 → length (code_lines c) ≤ 17 * length c
txs_short c h = rw (sym (codes_are c)) (lines_short 17 (λ x n. tx_line x (status_of n)) 0 c 0 (λ j k u e. tx-short j _ (omega arith)))

pub accounts-short : (f h : List ℕ) → length f ≤ 1024 → Below 18446744073709551616 f → Below 18446744073709551616 h → length (account_lines f h) ≤ 55 * length f
unfolding account_lines
accounts-short f h n hf hh = pairs_short 55 account_line f h (λ k u. account-short k _ _ (omega arith) (hf k) (hh k))

pub registers-short : (g : List ℕ) → length g ≤ 100 → Below 4294967296 g → length (register_lines g) ≤ 23 * length g
unfolding register_lines
registers-short g n hg = lines_short 23 register_line 0 g 0 (λ j k u e. register-short j _ (omega arith) (hg k))

-- the most blocks, transactions, accounts and registers
pub lists-short : (i s c f h g : List ℕ) (share : ℕ) → length i ≤ 2048 → length c ≤ 1024 → length f ≤ 1024 → length g ≤ 64
    → Below 65536 i → Below 65536 s → Below 18446744073709551616 f → Below 18446744073709551616 h → Below 4294967296 g → share < 4294967296
    → length (lists_text i s c f h g share) ≤ 107985
unfolding lists_text
lists-short i s c f h g share ni nc nf ng bi bs bf bh bg bn =
    simp length-append
    (omega (arith, logs_short i s bi bs, txs_short c nc, accounts-short f h nf bf bh, registers-short g (omega arith) bg, share-short share bn))

-- the first members of a list
pub below-take : (b n : ℕ) (l : List ℕ) → 0 < b → Below b l → Below b (take n l)
below-take b n l h u k = go (dec_lt k n)
  where
    go : Dec (k < n) → get_or (take n l) k 0 < b
    go (yes q) = rw (get_or-take n l k 0 q) (u k)
    go (no q) = rw (get_or-eq_default (take n l) 0 {n = k} (omega (arith, length-take n l))) h

-- a report of at most so many blocks, transactions, accounts and registers, with numbers as wide as the calls for readings give them
pub record TailFits (r : Report) : Type 0 where
  pub blocks : length r.log ≤ 2048
  pub transactions : length r.settlements ≤ 1024
  pub accounts : length r.free ≤ 1024
  pub cells : length r.registers ≤ 64
  pub instances : Below 65536 (map (λ (b : Ref). b.instance) r.log)
  pub numbers : Below 65536 (map (λ (b : Ref). b.index + 1) r.log)
  pub frees : Below 18446744073709551616 r.free
  pub helds : Below 18446744073709551616 r.held
  pub values : Below 4294967296 r.registers
  pub shares : r.share < 4294967296

pub tail_short : (r : Report) → TailFits r → length (tail_text r) ≤ 107985
unfolding lists_of value_of
tail_short r f = rw (tail_of r _ _ _ _ _ _ refl refl refl refl) at
    (lists-short (map (λ (b : Ref). b.instance) r.log) (map (λ (b : Ref). b.index + 1) r.log) (map code_of r.settlements) r.free r.held r.registers r.share
    (simp length-map f.blocks) (simp length-map f.transactions) f.accounts f.cells f.instances f.numbers f.frees f.helds f.values f.shares)
