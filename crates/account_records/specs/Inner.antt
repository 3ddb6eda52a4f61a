-- What the inner functions' contracts cite.
-- Assumes nothing.
use Rattle.std.specs.Prelude.{ℕ, get_or, List}
use Rattle.account_records.specs.declared.Account.{Account}

-- the record at place k of the two lists
unfoldable pub record_at : List ℕ → List ℕ → ℕ → Account
record_at free held k = record { free = get_or free k 0; held = get_or held k 0 }
