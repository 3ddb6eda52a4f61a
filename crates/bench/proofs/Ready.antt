-- The tests that a settlement may be asked for.
-- Assumes nothing.
use Prim.Native.Nat.{◌*◌, ◌+◌, ◌/◌, ◌<◌, ◌≤◌, ℕ}
use borrow.Author.Tests.{le-leb, le-ltb, leb-true, lt-leb, lt-ltb, ltb-true}
use lib.Dec.{leb, ltb}
use lib.ListN.{get_or, get_or-replicate, length, replicate, take}
use mathlib.Core.Bool.{Bool, false, true}
use mathlib.Core.List.{List}
use mathlib.Core.Path.{◌∙◌, ◌≡◌, ap, ap₂, refl, sym}
use native.Mathlib.Omega.{arith}
use Rattle.bench.specs.Bench.{Timed, ready, rises, rises_at}
use Rattle.ordering.specs.Table.{Ordered, count_in, rank_in}
use Rattle.settlement.specs.Settlement.{contracts}
use Rattle.settlement.specs.Tables.{Buffers, Settled, whole_of}
use Rattle.settlement.specs.View.{Rows, View}
use Rattle.sheets.specs.Sheet.{Sheet}
use Rattle.std.proofs.lemmas.List.FromFn.{get_or-range_with_len, length-range_with_len}
use Rattle.std.specs.Bool.{MatchBool}
use Rattle.std.specs.List.{AllWithin, HoldsAt, range_with_len}
use Rattle.sums.proofs.LoopLaws.{all_to_not}
use Rattle.sums.proofs.TestLaws.{all_to_each, all_to_true, both_true, passed, pick-false, pick_true, took}
use Rattle.sums.specs.Test.{all_to}
use Rattle.sheets.specs.declared.sheet.Sizes.{Sizes}

-- ---- one block

module _ (ranks : List ℕ) (b j n : ℕ) where
  pub rises_last : b ≤ n + 1 → true ≡ rises_at ranks b j n
  unfolding rises_at
  rises_last h = sym (pick-false _ _ _ (le-ltb (n + 1) b h))

  pub rises_next : n + 1 < b → (p q : ℕ) → p ≡ rank_in ranks j n → q ≡ rank_in ranks j (n + 1) → ltb p q ≡ rises_at ranks b j n
  unfolding rises_at
  rises_next h p q ep eq = ap₂ ltb ep eq ∙ sym (pick_true _ _ _ (lt-ltb (n + 1) b h))

-- what `all` says of the numbers below n
pub all_below : (n : ℕ) (f : ℕ → Bool) (r : Bool) → MatchBool r (AllWithin (λ x. f x ≡ true) (range_with_len 0 n) 0 (length (range_with_len 0 n)))
    ((k : ℕ) × (k < length (range_with_len 0 n)) × HoldsAt (λ x. f x ≡ false) (range_with_len 0 n) k) → r ≡ all_to n f
all_below n f true h =
    sym (all_to_each n f (λ i l.
    let e : i < length (range_with_len 0 n) = omega (arith, l, length-range_with_len 0 n) in
    let q : i ≡ 0 + i = omega arith in
    ap f (q ∙ sym (get_or-range_with_len 0 n i 0 l)) ∙ h i 0 (omega arith) e))
all_below n f false (k, l, h) =
    let l' : k < n = omega (arith, l, length-range_with_len 0 n) in
    let q : k ≡ 0 + k = omega arith in
    sym (all_to_not n k f l' (ap f (q ∙ sym (get_or-range_with_len 0 n k 0 l')) ∙ h 0))

-- ---- all tests

module _ (z : Sizes) (ranks : List ℕ) (b counts table order : ℕ) where
  pub not_m : 16 < z.m → false ≡ ready z ranks b counts table order
  unfolding ready
  not_m h = sym (passed _ (lt-leb z.m 16 h) refl)

  module _ (m : z.m ≤ 16) where
    pub not-g : 64 < z.g → false ≡ ready z ranks b counts table order
    unfolding ready
    not-g h = sym (took _ (le-leb z.m 16 m) (passed _ (lt-leb z.g 64 h) refl))

    module _ (g : z.g ≤ 64) where
      pub not-counts : counts < 2 * z.t → false ≡ ready z ranks b counts table order
      unfolding ready
      not-counts h = sym (took _ (le-leb z.m 16 m) (took _ (le-leb z.g 64 g) (passed _ (lt-leb (2 * z.t) counts h) refl)))

      module _ (c : 2 * z.t ≤ counts) where
        pub not_table : table < z.t → false ≡ ready z ranks b counts table order
        unfolding ready
        not_table h = sym (took _ (le-leb z.m 16 m) (took _ (le-leb z.g 64 g) (took _ (le-leb (2 * z.t) counts c) (passed _ (lt-leb z.t table h) refl))))

        module _ (t : z.t ≤ table) where
          pub not-order : order < 128 * z.m → false ≡ ready z ranks b counts table order
          unfolding ready
          not-order h =
              sym (took _ (le-leb z.m 16 m) (took _ (le-leb z.g 64 g) (took _ (le-leb (2 * z.t) counts c) (took _ (le-leb z.t table t) (passed _ (lt-leb (128 * z.m) order h) refl)))))

          module _ (o : 128 * z.m ≤ order) where
            pub not_short : 128 < b → false ≡ ready z ranks b counts table order
            unfolding ready
            not_short h =
                sym (took _ (le-leb z.m 16 m) (took _ (le-leb z.g 64 g) (took _ (le-leb (2 * z.t) counts c) (took _ (le-leb z.t table t)
                (took _ (le-leb (128 * z.m) order o) (passed _ (lt-leb b 128 h) refl))))))

            pub is-rest : b ≤ 128 → (r : Bool) → r ≡ all_to z.m (rises ranks b) → r ≡ ready z ranks b counts table order
            unfolding ready
            is-rest h r e =
                sym (took _ (le-leb z.m 16 m) (took _ (le-leb z.g 64 g) (took _ (le-leb (2 * z.t) counts c) (took _ (le-leb z.t table t)
                (took _ (le-leb (128 * z.m) order o) (took _ (le-leb b 128 h) (sym e)))))))

-- ---- what the tests give

module _ (z : Sizes) (ranks : List ℕ) (places counts table order : ℕ) (e : ready z ranks (places / 32) counts table order ≡ true) where
  parts : (z.m ≤ 16) × (z.g ≤ 64) × (2 * z.t ≤ counts) × (z.t ≤ table) × (128 * z.m ≤ order) × (places / 32 ≤ 128) × (all_to z.m (rises ranks (places / 32)) ≡ true)
  unfolding ready
  parts =
      let p1 = both_true (leb z.m 16) e in
      let p2 = both_true (leb z.g 64) p1.1 in
      let p3 = both_true (leb (2 * z.t) counts) p2.1 in
      let p4 = both_true (leb z.t table) p3.1 in
      let p5 = both_true (leb (128 * z.m) order) p4.1 in
      let p6 = both_true (leb (places / 32) 128) p5.1 in
      (leb-true _ 16 p1.0, leb-true _ 64 p2.0, leb-true _ counts p3.0, leb-true _ table p4.0, leb-true _ order p5.0, leb-true _ 128 p6.0, p6.1)

  same_count : (j : ℕ) → j < z.m → count_in (replicate 16 places) j ≡ places
  same_count j l = get_or-replicate 16 j places 0 (omega (arith, parts.0))

  pub ready-ordered : Ordered z.m (rank_in ranks) (whole_of (count_in (replicate 16 places)))
  unfolding rises rises_at
  ready-ordered = record {
    short = λ j l. let q = same_count j l in let s = parts.5 in omega (arith, ap (λ (n : ℕ). n / 32) q);
    rising = λ j n l u.
        let q : count_in (replicate 16 places) j / 32 ≡ places / 32 = ap (λ (k : ℕ). k / 32) (same_count j l) in
        let h : n + 1 < places / 32 = omega arith in
        let row = all_to_true z.m (rises ranks (places / 32)) parts.6 j l in
        let cell = all_to_true (places / 32) (rises_at ranks (places / 32) j) row n (omega arith) in
        ltb-true _ _ (sym (pick_true (ltb (n + 1) (places / 32)) _ _ (lt-ltb (n + 1) (places / 32) h)) ∙ cell);
  }

  pub ready-counts : 2 * z.t ≤ counts
  ready-counts = parts.2

  pub ready-table : z.t ≤ table
  ready-table = parts.3

  pub ready-order : 128 * z.m ≤ order
  ready-order = parts.4

  pub ready-m : z.m ≤ 16
  ready-m = parts.0

  pub ready-g : z.g ≤ 64
  ready-g = parts.1

-- ---- the promise

module _ (u : Bool) (z : Sizes) (S : Sheet) (R : Rows) (v : View) (before after : Buffers) (which r : ℕ) where
  pub timed_not : u ≡ false → r ≡ 0 → after ≡ before → Timed u z S R v before after which r
  timed_not f e q = record {
    settled = λ t. absurd (never (sym t ∙ f));
    register = λ t. absurd (never (sym t ∙ f));
    nothing = λ t. (e, q);
  }
    where
      never : true ≡ false → ⊥
      never w = let z' : ◌≡◌ {A = ℕ} 0 1 = cc in omega arith

  pub timed_so : u ≡ true → Settled z S R v before after → (cells : List ℕ) → take z.g cells ≡ (contracts S R v).registers → (c : ℕ) → c ≡ get_or (take z.g cells) which 0
      → r ≡ 4294967296 + c → Timed u z S R v before after which r
  timed_so t s cells ec c e q = record {
    settled = λ w. s;
    register = λ w. q ∙ ap (λ (n : ℕ). 4294967296 + n) (e ∙ ap (λ (k : List ℕ). get_or k which 0) ec);
    nothing = λ w. absurd (never (sym t ∙ w));
  }
    where
      never : true ≡ false → ⊥
      never w = let z' : ◌≡◌ {A = ℕ} 0 1 = cc in omega arith
