-- What follows the lines of the blocks in a reading (document 01, "One reading, whole").
-- Assumes nothing.
use Rattle.std.specs.Prelude.{◌+◌, suc, ℕ}
use mathlib.Core.List.{List, [], ◌++◌, ◌∷◌, map, zip}
use Rattle.ordering.specs.Order.{Ref}
use Rattle.plain.specs.Report.{Report}
use Rattle.settlement.specs.Books.{Status}
use Rattle.settlement.specs.Tables.{status_of}
use Rattle.text.specs.Lines.{account_line, log_line, register_line, share_line, tx_line}

-- the line of each member, numbered from k up
unfoldable pub lines_from : {A : Type 0} → (ℕ → A → List ℕ) → ℕ → List A → List ℕ
lines_from f k [] = []
lines_from f k (x ∷ l) = f k x ++ lines_from f (suc k) l

-- the line of each two members at one place, as far as both lists go
unfoldable pub pair_lines : (ℕ → ℕ → ℕ → List ℕ) → List ℕ → List ℕ → List ℕ
pair_lines f l l' = lines_from (λ k b. f k b.0 b.1) 0 (zip l l')

-- "`log` lines stand in log order": instance and sequence number of each block
unfoldable pub log_lines : List Ref → List ℕ
log_lines l = lines_from (λ k b. log_line b.instance (b.index + 1)) 0 l

-- "`tx`, `account` and `register` lines for every number from 0 up"
unfoldable pub tx_lines : List Status → List ℕ
tx_lines l = lines_from tx_line 0 l

unfoldable pub account_lines : List ℕ → List ℕ → List ℕ
account_lines free held = pair_lines account_line free held

unfoldable pub register_lines : List ℕ → List ℕ
register_lines l = lines_from register_line 0 l

unfoldable pub tail_text : Report → List ℕ
tail_text r =
    log_lines r.log
    ++ (tx_lines r.settlements ++ (account_lines r.free r.held ++ (register_lines r.registers ++ share_line r.share)))

-- ---- the same of the lists that the calls for readings fill: the law `tail_of` of proofs/

-- a block by its instance and its sequence number
unfoldable pub number_lines : List ℕ → List ℕ → List ℕ
number_lines instances numbers = pair_lines (λ k. log_line) instances numbers

-- a settlement by its number
unfoldable pub code_lines : List ℕ → List ℕ
code_lines codes = tx_lines (map status_of codes)

unfoldable pub lists_text : List ℕ → List ℕ → List ℕ → List ℕ → List ℕ → List ℕ → ℕ → List ℕ
lists_text instances numbers codes free held registers share =
    number_lines instances numbers ++ (code_lines codes ++ (account_lines free held ++ (register_lines registers ++ share_line share)))
