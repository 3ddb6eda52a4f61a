-- The engine's cells, the state that they stand for, and what an accepted block leaves in them.
-- Assumes nothing.
use Rattle.std.specs.Prelude.{◌*◌, ◌+◌, ℕ, get_or, set, Bool, List}
use Rattle.escrow.specs.Cells.{history_in}
use Rattle.escrow.specs.Outcome.{Citation, History, citation, judge}
use Rattle.ordering.specs.Table.{count_in, rank_in, usable}
use Rattle.plain.specs.Answer.{Answer, is_accepted}
use Rattle.plain.specs.Logs.{Values}
use Rattle.sums.specs.Fold.{fold_to}
use Rattle.sums.specs.Seq.{written}
use Rattle.sums.specs.Test.{bit, pick}
use Rattle.sheets.specs.Sheet.{Sheet}
use Rattle.settlement.specs.Cells.{flag_in}
use Rattle.settlement.specs.View.{no_cite}

-- the heights that the ledger value holds, and its lent slices: 128 ranks, 2048 cut entries, 4096 citations and 4096 outcomes an instance
pub record Cells : Type 0 where
  pub heights : List ℕ
  pub ranks : List ℕ
  pub cuts : List ℕ
  pub cites : List ℕ
  pub good : List ℕ

-- the heights that count
abbrev pub heights_in : Cells → ℕ → ℕ
heights_in C = usable (rank_in C.ranks) (count_in C.heights)

-- the instance logs, as the rules read them
unfoldable pub past_in : Cells → History
past_in C = history_in (heights_in C) C.ranks C.cuts C.cites

-- the recorded part outcomes
abbrev pub outcomes_in : Cells → Citation → Bool
outcomes_in C c = flag_in C.good c.instance c.position

-- ---- an offer, on cells

-- the block b at the end of its instance's log: one height, one rank, 16 cut entries, 32 citation places (65535 past the count)
unfoldable pub stored_in : Values → Cells → Cells
stored_in b C =
    let i : ℕ = b.instance in
    let h : ℕ = heights_in C i in
    record {
      heights = set C.heights i (h + 1);
      ranks = set C.ranks (i * 128 + h) b.rank;
      cuts = written C.cuts ((i * 128 + h) * 16) 16 (λ e. get_or b.cut e 0);
      cites = written C.cites (i * 4096 + h * 32) 32 (λ q. get_or b.cites q no_cite);
      good = C.good;
    }

-- the outcome of the citation at place p of instance i, judged in its view and kept
unfoldable pub judged_in : Sheet → ℕ → ℕ → Cells → Cells
judged_in S i p C = record {
  heights = C.heights;
  ranks = C.ranks;
  cuts = C.cuts;
  cites = C.cites;
  good = set C.good (i * 4096 + p) (bit (judge S (past_in C) (outcomes_in C) (citation i p)));
}

-- the block is stored, then its 32 places are judged one after the other
unfoldable pub taken_in : Sheet → Values → Cells → Cells
taken_in S b C = fold_to 32 (λ q. judged_in S b.instance (heights_in C b.instance * 32 + q)) (stored_in b C)

-- the cells after an offer of the block b that got the answer a
unfoldable pub cells_offered : Sheet → Answer → Values → Cells → Cells
cells_offered S a b C = pick (is_accepted a) (taken_in S b C) C
