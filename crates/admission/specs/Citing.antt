-- A list of citations by value, and the values that a block says with it.
-- Assumes nothing.
use Rattle.std.specs.Prelude.{◌≤◌, ℕ, length, take, List, ◌≡◌}
use Rattle.frames.specs.declared.block.Block.{Block}
use Rattle.plain.specs.Logs.{Values}
use Rattle.admission.specs.declared.citations.Citations.{Citations}

unfoldable pub cites_in : Citations → List ℕ
cites_in c = take c.count c.numbers

-- c holds the first 32 of a list; places of its array from the count on mean nothing
pub record Listed (c : Citations) (l : List ℕ) : Type 0 where
  pub held : cites_in c ≡ take 32 l
  pub size : c.count ≡ length (cites_in c)
  pub few : c.count ≤ 32

-- a block with a list of citations
unfoldable pub values_with : Block → List ℕ → Values
values_with b l = record { instance = b.instance; number = b.sequence.0; rank = b.rank.0; cut = b.cut; cites = l }

abbrev pub values_of : Block → Citations → Values
values_of b c = values_with b (cites_in c)
