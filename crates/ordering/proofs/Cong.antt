-- The log depends on the ranks of the view's blocks alone.
-- Assumes nothing.
use Prim.Native.Nat.{◌%◌, ◌+◌, ◌/◌, ◌<◌, min, suc, zero, ℕ}
use borrow.Author.Tests.{le-ltb}
use lib.Dec.{eqb, ltb}
use mathlib.Core.List.{List, ◌++◌, map}
use mathlib.Core.Path.{◌∙◌, ◌≡◌, ap, ap₂, refl}
use native.Mathlib.Decide.{dec_lt}
use native.Mathlib.Omega.{arith}
use Rattle.ordering.proofs.Laws.{last_ext}
use Rattle.ordering.specs.Order.{bar_of, ceiling_of, entry_at, global_log, key_of, last_of, log_to, ref_of, seek}
use Rattle.sums.specs.Seq.{only, only_if}
use Rattle.sums.specs.Least.{least_from}

pub seek_cong : (f g : ℕ → ℕ) (r n : ℕ) → ((k : ℕ) → k < n → f k ≡ g k) → seek f r n ≡ seek g r n
unfolding seek
seek_cong f g r zero h = refl
seek_cong f g r (suc n) h = ap₂ (λ (l : List ℕ) (x : ℕ). l ++ only (eqb x r) n) (seek_cong f g r n (λ k l. h k (omega arith))) (h n (omega arith))

pub least_cong : (b c : ℕ) (f g : ℕ → ℕ) (n : ℕ) → b ≡ c → ((j : ℕ) → j < n → f j ≡ g j) → least_from b f n ≡ least_from c g n
unfolding least_from
least_cong b c f g zero e h = e
least_cong b c f g (suc n) e h = ap₂ min (least_cong b c f g n e (λ j l. h j (omega arith))) (h n (omega arith))

module _ (m : ℕ) (R S : ℕ → ℕ → ℕ) (F G : ℕ → ℕ) (counts : (j : ℕ) → j < m → F j ≡ G j) (ranks : (j n : ℕ) → j < m → n < F j → R j n ≡ S j n) where
  ceiling_cong : (j : ℕ) → j < m → ceiling_of R F j ≡ ceiling_of S G j
  ceiling_cong j l = ap (λ (r : ℕ). key_of (r + 1) j) (last_ext (R j) (S j) (F j) (λ n u. ranks j n l u) ∙ ap (last_of (S j)) (counts j l))

  entry_cong : (x : ℕ) → entry_at m R F x ≡ entry_at m S G x
  unfolding entry_at
  entry_cong x = go (dec_lt (x % 16) m)
    where
      go : Dec (x % 16 < m)
          → only_if (ltb (x % 16) m) (map (ref_of (x % 16)) (seek (R (x % 16)) (x / 16) (F (x % 16))))
          ≡ only_if (ltb (x % 16) m) (map (ref_of (x % 16)) (seek (S (x % 16)) (x / 16) (G (x % 16))))
      go (yes l) =
          ap (λ (z : List ℕ). only_if (ltb (x % 16) m) (map (ref_of (x % 16)) z))
          (seek_cong (R (x % 16)) (S (x % 16)) (x / 16) (F (x % 16)) (λ k a. ranks (x % 16) k l a) ∙ ap (seek (S (x % 16)) (x / 16)) (counts (x % 16) l))
      go (no l) = let t = le-ltb (x % 16) m (omega arith) in simp t

  to_cong : (k : ℕ) → log_to m R F k ≡ log_to m S G k
  unfolding log_to
  to_cong zero = refl
  to_cong (suc k) = ap₂ ◌++◌ (to_cong k) (entry_cong k)

  pub log_cong : 0 < m → global_log m R F ≡ global_log m S G
  unfolding global_log
  log_cong pos =
      let e : bar_of m R F ≡ bar_of m S G = least_cong (ceiling_of R F 0) (ceiling_of S G 0) (ceiling_of R F) (ceiling_of S G) m (ceiling_cong 0 pos) ceiling_cong in
      to_cong (bar_of m R F) ∙ ap (log_to m S G) e
