use mathlib.Core.List.{[]}
use mathlib.Core.Path.{◌∙◌}
use native.Mathlib.Omega.{arith}
use Rattle.offers.proofs.FrameLaws.{frame-none}
use Rattle.state.specs.Lengths.{needs_list}
use Rattle.state.specs.State.{kept}
use Rattle.offers.proofs.frame_verdict.frame_verdict.Goals as goal

pub returns-then-bytes-at : goal.returns-then-bytes-at
returns-then-bytes-at c = let s = c.args in frame-none s.ledger (kept s.sheet.now s.ranks.now s.cuts.now s.cites.now []) (needs_list s.lent) s.bytes.now s.at c.if-bytes-at.true

pub returns : goal.returns
returns c = c.from.ensures ∙ c.placed_verdict.ensures (omega arith)
