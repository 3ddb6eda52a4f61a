-- An engine by what its state stands for: a tool of the proofs; the claim is stated over the calls themselves.
-- Assumes nothing.
use Prim.Native.Nat.{◌*◌, ◌+◌, ◌<◌, ◌≤◌, ℕ}
use lib.ListN.{get_or}
use mathlib.Core.Bool.{Bool, false, true}
use mathlib.Core.List.{List, [], ◌∷◌}
use mathlib.Core.Logic.{◌≢◌}
use mathlib.Core.Path.{◌≡◌}
use Rattle.escrow.specs.Outcome.{Citation, History, InLogs, full_view, judge, rows_of}
use Rattle.plain.specs.Answer.{Answer, is_accepted}
use Rattle.plain.specs.Plain.{answer}
use Rattle.plain.specs.Report.{Report, report_by}
use Rattle.plain.specs.Offers.{Offer, offered}
use Rattle.plain.specs.Logs.{Values}
use Rattle.sheets.specs.Sheet.{Sheet}
use Rattle.settlement.specs.View.{Rows, View, no_cite}

-- what the cells stand for: the logs as the rules read them, and the part outcomes that the engine's own step judged
pub record Engine : Type 0 where
  pub past : History
  pub flag : Citation → Bool

-- H' is H with the block b at the end of its instance's log, as far as the m instances and the heights go
pub record Grown (m : ℕ) (b : Values) (H H' : History) : Type 0 where
  pub more : H'.height b.instance ≡ H.height b.instance + 1
  pub others : (j : ℕ) → j < m → j ≢ b.instance → H'.height j ≡ H.height j
  pub old_rank : (j n : ℕ) → j < m → n < H.height j → H'.rank j n ≡ H.rank j n
  pub old_entry : (j n e : ℕ) → j < m → n < H.height j → e < m → H'.entry j n e ≡ H.entry j n e
  pub old_cell : (j p : ℕ) → j < m → p < H.height j * 32 → H'.cell j p ≡ H.cell j p
  pub new_rank : H'.rank b.instance (H.height b.instance) ≡ b.rank
  pub new_entry : (e : ℕ) → e < m → H'.entry b.instance (H.height b.instance) e ≡ get_or b.cut e 0
  pub new_cell : (q : ℕ) → q < 32 → H'.cell b.instance (H.height b.instance * 32 + q) ≡ get_or b.cites q no_cite

-- the same blocks, as far as the m instances and the heights go
pub record Alike (m : ℕ) (H H' : History) : Type 0 where
  pub heights : (j : ℕ) → j < m → H.height j ≡ H'.height j
  pub ranks : (j n : ℕ) → j < m → n < H.height j → H.rank j n ≡ H'.rank j n
  pub entries : (j n e : ℕ) → j < m → n < H.height j → e < m → H.entry j n e ≡ H'.entry j n e
  pub cells : (j p : ℕ) → j < m → p < H.height j * 32 → H.cell j p ≡ H'.cell j p

-- an accepted block: the logs have grown by it, old outcomes stay, and each new one is as the engine judges it in its view
pub record Taken (S : Sheet) (b : Values) (s s' : Engine) : Type 0 where
  pub grown : Grown S.m b s.past s'.past
  pub old : (c : Citation) → InLogs S s.past c → s'.flag c ≡ s.flag c
  pub new : (c : Citation) → InLogs S s'.past c → s.past.height c.instance * 32 ≤ c.position → s'.flag c ≡ judge S s'.past s'.flag c

-- the contract of the call for an offer: the answer is the plain ledger's; what is accepted is taken, and nothing else changes
pub record Answered (S : Sheet) (o : Offer) (a : Answer) (s s' : Engine) : Type 0 where
  pub says : a ≡ answer S s.past o
  pub takes : is_accepted a ≡ true → Taken S (offered S o) s s'
  pub leaves : is_accepted a ≡ false → s' ≡ s

-- a list of calls: offers with their answers; between them calls that leave the ledger as it was
pub data Calls (S : Sheet) : Engine → List Offer → List Answer → Engine → Type 0 where
  stop : {s : Engine} → Calls S s [] [] s
  offer : {s s' s'' : Engine} {o : Offer} {a : Answer} {l : List Offer} {r : List Answer} → Answered S o a s s' → Calls S s' l r s'' → Calls S s (o ∷ l) (a ∷ r) s''
  other : {s s' s'' : Engine} {l : List Offer} {r : List Answer} → s' ≡ s → Calls S s' l r s'' → Calls S s l r s''

-- "A list of demand 3 starts fresh, the sheet just complete": the offers l got the answers r and left s
pub record Run (S : Sheet) (l : List Offer) (r : List Answer) (s : Engine) : Type 0 where
  pub first : Engine
  pub fresh : (j : ℕ) → j < S.m → first.past.height j ≡ 0
  pub calls : Calls S first l r s

-- ---- the engine's rows and its full view

abbrev pub rows_by : Engine → Rows
rows_by s = rows_of s.past s.flag

abbrev pub whole_view : Engine → View
whole_view s = full_view s.past

-- what is read from the engine: the rules over its own rows
unfoldable pub report_from : Sheet → Engine → Report
report_from S s = report_by S (rows_by s) (whole_view s)
