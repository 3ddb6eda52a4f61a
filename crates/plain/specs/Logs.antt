-- The instance logs (document 01, "Plain ledger": "one list of blocks per instance, the instance log, empty at first").
-- Assumes nothing.
use Rattle.std.specs.Prelude.{◌%◌, ◌/◌, ◌<◌, ℕ, get_or, length, replicate, set, List, [], ◌++◌, ◌∷◌}
use Rattle.escrow.specs.Outcome.{History}
use Rattle.sums.specs.Seq.{Begins, tabulate}
use Rattle.sheets.specs.Sheet.{Sheet}
use Rattle.settlement.specs.View.{no_cite}

-- an accepted block; its sequence number is its index in the log plus 1. The cut is sixteen counts
pub record Block : Type 0 where
  pub rank : ℕ
  pub cut : List ℕ
  pub cites : List ℕ

abbrev pub Logs : Type 0
Logs = List (List Block)

abbrev pub no_block : Block
no_block = record { rank = 0; cut = []; cites = [] }

abbrev pub block_at : Logs → ℕ → ℕ → Block
block_at L j n = get_or (get_or L j []) n no_block

-- the logs as the rules read them; a place past a block's citations holds no transaction
unfoldable pub history_of : Logs → History
history_of L = record {
  height = λ j. length (get_or L j []);
  rank = λ j n. (block_at L j n).rank;
  entry = λ j n e. get_or (block_at L j n).cut e 0;
  cell = λ j p. get_or (block_at L j (p / 32)).cites (p % 32) no_cite;
}

abbrev pub empty_logs : Sheet → Logs
empty_logs S = replicate S.m []

-- a block's values as they are offered; the count is the length of the list of citations
pub record Values : Type 0 where
  pub instance : ℕ
  pub number : ℕ
  pub rank : ℕ
  pub cut : List ℕ
  pub cites : List ℕ

-- the block that the values say
abbrev pub block_from : Values → Block
block_from b = record { rank = b.rank; cut = tabulate 16 (λ e. get_or b.cut e 0); cites = b.cites }

-- "put at the end of its instance's log"
unfoldable pub appended : Logs → ℕ → Block → Logs
appended L i b = set L i (get_or L i [] ++ b ∷ [])

-- each instance log of the first is a beginning of the second's: "A beginning may be none or all of a list"
abbrev pub EachBegins : Sheet → Logs → Logs → Type 0
EachBegins S L L' = (j : ℕ) → j < S.m → Begins (get_or L j []) (get_or L' j [])
