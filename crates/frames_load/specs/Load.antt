-- Loading a sheet frame by frame into the caller's cells (document 01, "Slips": "A run is one head, one starts slip, t transactions in number order, then blocks").
-- Assumes nothing.
use Rattle.std.specs.Prelude.{ℕ, eqb, ltb, length, List, [], ◌++◌, ◌∷◌, ◌≡◌, Ok, Err, Some, None}
use Rattle.std.proofs.lemmas.List.Edits.{sets}
use Rattle.frames.specs.Balances.{balances_of}
use Rattle.frames.specs.Frame.{body_at, body_of, frame_at}
use Rattle.sheets.specs.Sheet.{Sheet, sheet_from, slot_from}
use Rattle.frames.specs.Step.{header_loaded, kind_due, step_at, taken_step}
use Rattle.sums.specs.Test.{pick}
use Rattle.transactions.specs.Body.{transaction_of}
use Rattle.frames.specs.declared.step.Loading.{Loading}
use Rattle.frames.specs.Step.{Step}
use Rattle.refusals.specs.declared.Refusal.TheVariants.{BufferShort}

-- the sheet so far, as the cells hold it: as many transactions as were taken. The balances are there from stage 2 on
unfoldable pub sheet_so_far : Loading → List ℕ → Sheet
sheet_so_far s cells = sheet_from s.m s.a s.g s.loaded cells

-- the least length of the cells, once the header is known: 8 bytes a balance, 100 a transaction
unfoldable pub room : Loading → ℕ
room s = pick (eqb s.stage 0) 0 (slot_from s.a s.t)

-- a body goes to its place, balances to the front and a transaction to its slot; that of a header and of a block to none
unfoldable pub body_stored : Loading → List ℕ → List ℕ → List ℕ
body_stored s b cells =
    pick (eqb (kind_due s) 2) (sets cells 0 b) (pick (eqb (kind_due s) 3) (sets cells (slot_from s.a s.loaded) b) cells)

-- what a step leaves in the cells: only a frame that was taken is stored
abbrev pub loaded_cells : Loading → List ℕ → List ℕ → Step → List ℕ
loaded_cells s b cells (Ok (Some (next, end))) = body_stored s b cells
loaded_cells s b cells (Err r) = cells
loaded_cells s b cells (Ok None) = cells

-- the answer: 16 first, then the step's
unfoldable pub load_answer : List ℕ → ℕ → Loading → ℕ → Step
load_answer run at s n = pick (ltb n (room s)) (Err (BufferShort (room s))) (step_at run at s)

-- the cells afterwards
unfoldable pub load_cells : List ℕ → ℕ → Loading → List ℕ → List ℕ
load_cells run at s cells =
    pick (ltb (length cells) (room s)) cells (loaded_cells s (body_of (frame_at run at) run) cells (step_at run at s))

-- what the loading step answers, and what it leaves: before and after are the cells
pub record Loads (run : List ℕ) (at : ℕ) (s : Loading) (before after : List ℕ) (answer : Step) : Type 0 where
  pub answers : answer ≡ load_answer run at s (length before)
  pub cells : after ≡ load_cells run at s before

-- the sheet of balances that were just taken: no transaction yet
abbrev pub with_balances : Loading → List ℕ → Sheet
with_balances s b = record { m = s.m; a = s.a; g = s.g; balances = balances_of s.a b; transactions = [] }

-- a sheet with one transaction more, else as it was
abbrev pub with_transaction : Sheet → List ℕ → Sheet
with_transaction S b = record { m = S.m; a = S.a; g = S.g; balances = S.balances; transactions = S.transactions ++ (transaction_of b ∷ []) }

-- what a frame that was taken, by its body, adds to the sheet: the new item is there, the others are as they were
pub record Adds (s next : Loading) (b before after : List ℕ) : Type 0 where
  pub header : kind_due s ≡ 1 → (next ≡ header_loaded b) × (after ≡ before)
  pub balances : kind_due s ≡ 2 → sheet_so_far next after ≡ with_balances s b
  pub transaction : kind_due s ≡ 3 → sheet_so_far next after ≡ with_transaction (sheet_so_far s before) b
  pub block : kind_due s ≡ 4 → (next ≡ s) × (after ≡ before)

-- the contract of the loading step: what it answers and leaves, byte for byte, and what a frame that was taken means for the decoded sheet
pub record LoadStep (run : List ℕ) (at : ℕ) (s : Loading) (before after : List ℕ) (answer : Step) : Type 0 where
  pub bytes : Loads run at s before after answer
  pub adds : (next : Loading) (end : ℕ) → answer ≡ taken_step next end → Adds s next (body_at run at) before after
