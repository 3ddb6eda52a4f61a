use mathlib.Core.Path.{◌∙◌, ap}
use Prim.Native.Nat.{ℕ, min}
use Rattle.rugxeni.proofs.NumberLaws.{ledger_made}
use Rattle.rugxeni.proofs.numbers.ledger_in.Goals as goal

pub returns : goal.returns
returns c = ledger_made c.args.numbers.now _ _ _ _ _ _ _ c.number_at.ensures c.number_at-2.ensures c.number_at-3.ensures c.number_at-4.ensures (c.min.ensures ∙ ap (λ (n : ℕ). min n 255) c.number_at-5.ensures) c.number_at-6.ensures c.heights_in.ensures
