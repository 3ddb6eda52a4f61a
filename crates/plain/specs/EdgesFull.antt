-- The limits of a log and of a block: "Block 128 accepted, 129 gives 17; 32 citations accepted, 33 give 5", and that the 32nd place of a block counts.
-- Assumes nothing.
use Rattle.std.specs.Prelude.{suc, ℕ, replicate, [], ◌++◌, ◌∷◌}
use Rattle.escrow.specs.Outcome.{History}
use Rattle.ordering.specs.Order.{ref_of}
use Rattle.plain.specs.Edges.{blk, contract, ent, op, pay, reads, sheet_of}
use Rattle.plain.specs.Logs.{Logs, Values}
use Rattle.plain.specs.Report.{Report}
use Rattle.sums.specs.Seq.{tabulate}
use Rattle.settlement.specs.Books.{paid}
use Rattle.settlement.specs.View.{no_cite}
use Rattle.sheets.specs.Sheet.{Sheet}

-- each instance has n blocks, with the ranks 1 to n, which see nothing and cite nothing
abbrev pub tall : ℕ → History
tall n = record { height = λ j. n; rank = λ j n. suc n; entry = λ j n e. 0; cell = λ j p. no_cite }

-- a block of one instance that cites n transactions
abbrev pub citing : ℕ → Values
citing n = blk 0 1 1 0 0 (tabulate n (λ k. k))

-- one instance with 33 payments
abbrev pub many_pay : Sheet
many_pay = sheet_of 1 0 (9 ∷ []) (replicate 33 (pay (ent 0 1 ∷ []) (ent 0 1 ∷ [])))

-- ---- the 32nd place: instance 1 pays 5 to account 0 there, and a contract of instance 0 spends it, at its own 32nd place, and sets the register to 7. The places before are empty: the rules do not ask why

abbrev pub last_sheet : Sheet
last_sheet = sheet_of 2 1 (0 ∷ 5 ∷ []) (pay (ent 1 5 ∷ []) (ent 0 5 ∷ []) ∷ contract (ent 0 5 ∷ []) (ent 1 5 ∷ []) (op 2 0 7 ∷ []) ∷ [])

abbrev pub last_logs : Logs
last_logs =
    (record { rank = 2; cut = 0 ∷ 1 ∷ replicate 14 0; cites = replicate 31 no_cite ++ 1 ∷ [] } ∷ [])
    ∷ (record { rank = 1; cut = replicate 16 0; cites = replicate 31 no_cite ++ 0 ∷ [] } ∷ []) ∷ []

abbrev pub last_report : Report
last_report = reads (ref_of 1 0 ∷ ref_of 0 0 ∷ []) (paid ∷ paid ∷ []) (0 ∷ 5 ∷ []) (0 ∷ 0 ∷ []) (7 ∷ []) 1000
