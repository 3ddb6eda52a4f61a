-- The header (document 01, kind 1: head).
-- Assumes nothing.
use Rattle.std.specs.Prelude.{ℕ, eqb, leb, length, Bool, not, List, Ok, Err}
use Rattle.fields.specs.Number.{le}
use Rattle.sums.specs.Test.{both, pick}
use Rattle.frames.specs.declared.header.Header.{Header}
use Rattle.refusals.specs.Refusals.{Checked}
use Rattle.refusals.specs.declared.Refusal.TheVariants.{BodyLength, OutOfRange}

-- "m instances (1 to 16), a accounts (1 to 1,024), g registers (0 to 64), t transactions (0 to 1,024)"
unfoldable pub header_ok : ℕ → ℕ → ℕ → ℕ → Bool
header_ok m a g t =
    both (leb 1 m) (both (leb m 16) (both (leb 1 a) (both (leb a 1024) (both (leb g 64) (leb t 1024)))))

-- "2 bytes each"
unfoldable pub header_of : List ℕ → Header
header_of b = record { m = le 2 b 0; a = le 2 b 2; g = le 2 b 4; t = le 2 b 6 }

-- refusals 4 ("8 for a head") and 5, of a frame at the offset at
unfoldable pub check_header : List ℕ → ℕ → Checked
check_header b at =
    pick (not (eqb (length b) 8)) (Err (BodyLength at))
    (pick (header_ok (le 2 b 0) (le 2 b 2) (le 2 b 4) (le 2 b 6)) (Ok tt) (Err (OutOfRange at)))
