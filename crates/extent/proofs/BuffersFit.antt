-- The buffers of one call fit in 4,194,304 bytes on every sheet: the largest takes 394,240.
-- Assumes nothing.
use Prim.Native.Nat.{◌≤◌}
use native.Mathlib.Omega.{arith}
use Rattle.extent.specs.Buffers.{BuffersFit, bytes_of, offer_widths, settle_widths, work_widths}
use Rattle.plain.specs.Offers.{offer_needs}
use Rattle.plain.specs.Report.{Query, accounts, log, registers, settle_needs, settlements, share, work_needs}
use Rattle.sheets.proofs.ProperLaws.{ProperSheet, proper-sheet}
use Rattle.sheets.specs.Sheet.{Sheet}

offer_fits : (S : Sheet) → ProperSheet S → bytes_of offer_widths (offer_needs S) ≤ 4194304
unfolding bytes_of offer_needs
offer_fits S p = omega (arith, p.small, p.accounts, p.few)

settle_fits : (S : Sheet) → ProperSheet S → bytes_of settle_widths (settle_needs S) ≤ 4194304
unfolding bytes_of settle_needs
settle_fits S p = omega (arith, p.small, p.accounts, p.few)

log_fits : (S : Sheet) → ProperSheet S → bytes_of (work_widths log) (work_needs S log) ≤ 4194304
unfolding bytes_of work_needs
log_fits S p = omega (arith, p.small)

reading_fits : (S : Sheet) (q : Query) → ProperSheet S → bytes_of (work_widths q) (work_needs S q) ≤ 4194304
unfolding work_needs
reading_fits S accounts p = settle_fits S p
reading_fits S registers p = settle_fits S p
reading_fits S settlements p = settle_fits S p
reading_fits S share p = settle_fits S p
reading_fits S log p = log_fits S p

pub buffers_fit : BuffersFit
buffers_fit = record { offers = λ S e. offer_fits S (proper-sheet S e); readings = λ S q e. reading_fits S q (proper-sheet S e) }
