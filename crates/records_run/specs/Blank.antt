-- Records that no account has, so that a place that is left alone shows.
-- Assumes nothing.
use Rattle.std.specs.Prelude.{ℕ, replicate, List}
use Rattle.account_records.specs.declared.Account.{Account}

-- the most accounts that a sheet has
abbrev pub places : ℕ
places = 1024

-- all ones: no amount is so large
abbrev pub blanks : List Account
blanks = replicate places (record { free = 18446744073709551615; held = 18446744073709551615 })
