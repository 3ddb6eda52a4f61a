-- What a writer of text leaves in the caller's buffer.
-- Assumes nothing.
use Rattle.std.specs.Prelude.{◌+◌, ◌-◌, min, ℕ, length, List, ◌≡◌}
use Rattle.std.proofs.lemmas.List.Edits.{sets}

-- the place after n bytes that were stored from `at` on, as far as a buffer of this size goes
abbrev pub place_after : ℕ → ℕ → ℕ → ℕ
place_after size at n = at + min n (size - at)

-- `after` is the buffer `before` with the text stored from `at` on, as far as it goes, and r is the place after it
pub record Wrote (before : List ℕ) (at : ℕ) (text : List ℕ) (after : List ℕ) (r : ℕ) : Type 0 where
  pub bytes : after ≡ sets before at text
  pub place : r ≡ place_after (length before) at (length text)
