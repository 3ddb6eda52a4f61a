-- The records of document 01's run ("One reading, whole"): the rules' report of it, as records.
-- Assumes nothing.
use Rattle.std.specs.Prelude.{ℕ, [], ◌∷◌, ◌≡◌}
use Rattle.account_records.specs.Records.{records_of}
use Rattle.account_records.specs.declared.Account.{Account}
use Rattle.plain.specs.Edges.{whole}
use Rattle.plain.specs.Plain.{ledger}
use Rattle.plain.specs.Report.{report_of}

abbrev pub account : ℕ → ℕ → Account
account f h = record { free = f; held = h }

-- "account 0 6 0", "account 1 6 0", "account 2 3 0"
abbrev pub Worked : Type 0
Worked = records_of (report_of whole.sheet (ledger whole.sheet whole.offers)) ≡ account 6 0 ∷ account 6 0 ∷ account 3 0 ∷ []
