-- The lines of a reading (document 01, "One reading, whole").
-- Assumes nothing.
use Rattle.std.specs.Prelude.{ℕ, List, [], ◌++◌, ◌∷◌}
use Prim.Native.String.{String}
use Rattle.settlement.specs.Books.{Status, paid, pending, returned}
use Rattle.text.specs.Ascii.{bytes_of}
use Rattle.text.specs.Text.{decimal, field, line}

-- "`run` m a g t"
unfoldable pub run_line : ℕ → ℕ → ℕ → ℕ → List ℕ
run_line m a g t = line (bytes_of "run") (decimal m ∷ decimal a ∷ decimal g ∷ decimal t ∷ [])

-- "`ok` and `log` instance, sequence number"
unfoldable pub ok_line : ℕ → ℕ → List ℕ
ok_line instance number = line (bytes_of "ok") (decimal instance ∷ decimal number ∷ [])

unfoldable pub log_line : ℕ → ℕ → List ℕ
log_line instance number = line (bytes_of "log") (decimal instance ∷ decimal number ∷ [])

-- "`refused`, number, place"
unfoldable pub refused_line : ℕ → ℕ → List ℕ
refused_line number place = line (bytes_of "refused") (decimal number ∷ decimal place ∷ [])

-- "`paid`, `returned` or `open`"
abbrev pub status_word : Status → String
status_word pending = "open"
status_word paid = "paid"
status_word returned = "returned"

-- "`tx` number, `paid`, `returned` or `open`"
unfoldable pub tx_line : ℕ → Status → List ℕ
tx_line x status = line (bytes_of "tx") (decimal x ∷ bytes_of (status_word status) ∷ [])

-- its end, from the last field on
unfoldable pub status_end : Status → List ℕ
status_end status = field (bytes_of (status_word status)) ++ bytes_of "\n"

-- "`account` number, free, held"
unfoldable pub account_line : ℕ → ℕ → ℕ → List ℕ
account_line k free held = line (bytes_of "account") (decimal k ∷ decimal free ∷ decimal held ∷ [])

-- "`register` number, value"
unfoldable pub register_line : ℕ → ℕ → List ℕ
register_line r value = line (bytes_of "register") (decimal r ∷ decimal value ∷ [])

-- "`share` settled transactions (paid or returned) in thousandths of t"
unfoldable pub share_line : ℕ → List ℕ
share_line share = line (bytes_of "share") (decimal share ∷ [])

-- "the one line `long`"
unfoldable pub long_line : List ℕ
long_line = line (bytes_of "long") []
