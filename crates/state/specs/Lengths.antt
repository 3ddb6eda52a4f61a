-- The least lengths of an offer's buffers by the sheet's header (docs/BUFFERS.md).
-- Assumes nothing.
use Rattle.std.specs.Prelude.{◌*◌, ◌+◌, ℕ, List, [], ◌∷◌}
use Rattle.state.specs.declared.lengths.Lengths.{Lengths}
use Rattle.state.specs.declared.ledger.Ledger.{Ledger}

abbrev pub least_lengths : Ledger → Lengths
least_lengths l = record {
  sheet = 8 * l.loading.a + 100 * l.loading.t;
  ranks = 128 * l.loading.m;
  cuts = 2048 * l.loading.m;
  cites = 4096 * l.loading.m;
  good = 4096 * l.loading.m;
  counts = 2 * l.loading.t;
  table = l.loading.t;
  order = 128 * l.loading.m;
}

-- in the order of the call
abbrev pub needs_list : Lengths → List ℕ
needs_list n = n.sheet ∷ n.ranks ∷ n.cuts ∷ n.cites ∷ n.good ∷ n.counts ∷ n.table ∷ n.order ∷ []
