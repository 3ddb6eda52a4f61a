-- Part outcomes, from the instance logs alone (document 01, "View", "Part outcome"; "The rules take each citation after those in its view").
-- Assumes nothing.
use Rattle.std.specs.Prelude.{◌*◌, ◌/◌, ◌<◌, suc, zero, ℕ, eqb, Bool, false}
use Rattle.escrow.specs.Amounts.{part_good}
use Rattle.settlement.specs.View.{Rows, View}
use Rattle.sheets.specs.Sheet.{Sheet}
use Rattle.sums.specs.Sum.{sum_to}
use Rattle.sums.specs.Test.{pick}

-- the instance logs as the rules read them: how many blocks each has; the rank and the cut entries of each block; the rows of citations
pub record History : Type 0 where
  pub height : ℕ → ℕ
  pub rank : ℕ → ℕ → ℕ
  pub entry : ℕ → ℕ → ℕ → ℕ
  pub cell : ℕ → ℕ → ℕ

-- a citation, by its instance and its place in that instance's row
pub record Citation : Type 0 where
  pub instance : ℕ
  pub position : ℕ

abbrev pub citation : ℕ → ℕ → Citation
citation j p = record { instance = j; position = p }

-- a citation place of the logs
abbrev pub InLogs : Sheet → History → Citation → Type 0
InLogs S H c = (c.instance < S.m) × (c.position < H.height c.instance * 32)

-- the rows, with an outcome for each citation
unfoldable pub rows_of : History → (Citation → Bool) → Rows
rows_of H o = record { rank = H.rank; cell = H.cell; good = λ j p. o (citation j p) }

-- "blocks 1 to cut entry j of every other instance j, all earlier blocks of its own instance, and earlier citations of its own block"
unfoldable pub view_of : History → ℕ → ℕ → View
view_of H j p i = pick (eqb i j) p (H.entry j (p / 32) i * 32)

-- "The full view is everything accepted"
unfoldable pub full_view : History → View
full_view H i = H.height i * 32

-- the part that a citation books, judged in its view by the outcomes o
unfoldable pub judge : Sheet → History → (Citation → Bool) → Citation → Bool
judge S H o c = part_good S (rows_of H o) (view_of H c.instance c.position) c.instance (H.cell c.instance c.position)

-- Outcomes rest on outcomes of earlier views. By fuel: judged at most f views deep
unfoldable pub judged_to : {C : Type 0} → ((C → Bool) → C → Bool) → ℕ → C → Bool
judged_to judge zero c = judge (λ x. false) c
judged_to judge (suc f) c = judge (judged_to judge f) c

-- as deep as there are places
unfoldable pub depth : Sheet → History → ℕ
depth S H = sum_to S.m H.height * 32

-- The outcome of every citation. On logs whose blocks come after what they cut it is the one assignment that judges each part in its view
-- (proofs/Outcomes, `outcome-is`, `outcome-only`). An empty place cites no transaction, has no debits, and is judged good
unfoldable pub outcome : Sheet → History → Citation → Bool
outcome S H = judged_to (judge S H) (depth S H)
