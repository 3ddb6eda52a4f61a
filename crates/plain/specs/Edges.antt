-- The edges of document 01 that are marked P, as rows of one table. specs/EdgesFurther has the other rows and the table; proofs/Edges shows that each row holds.
-- Assumes nothing.
use Rattle.std.specs.Prelude.{ℕ, length, replicate, true, List, [], ◌∷◌, ◌≡◌}
use Rattle.transactions.specs.Content.{Entry, Operation, Transaction}
use Rattle.ordering.specs.Order.{Ref, bar_of, key_of, ref_of}
use Rattle.plain.specs.Answer.{Answer, accepted}
use Rattle.plain.specs.Logs.{Logs, Values, history_of}
use Rattle.plain.specs.Offers.{Offer, offer_needs, values}
use Rattle.plain.specs.Plain.{answers, ledger}
use Rattle.plain.specs.Report.{Report, report_of}
use Rattle.settlement.specs.Books.{Status, paid, returned}
use Rattle.sheets.specs.Proper.{is_proper}
use Rattle.sheets.specs.Sheet.{Sheet}

-- a sheet; what is offered to the fresh ledger, the answers, and what is read afterwards
pub record Row : Type 0 where
  pub sheet : Sheet
  pub offers : List Offer
  pub answers : List Answer
  pub bar : ℕ
  pub report : Report

-- the bar of the full view
unfoldable pub bar_all : Sheet → Logs → ℕ
bar_all S L = bar_of S.m (history_of L).rank (history_of L).height

-- the sheet is one that a run can give, and the plain ledger answers and reads as the row says
pub record Holds (r : Row) : Type 0 where
  pub sound : is_proper r.sheet ≡ true
  pub answered : answers r.sheet r.offers ≡ r.answers
  pub barred : bar_all r.sheet (ledger r.sheet r.offers) ≡ r.bar
  pub read : report_of r.sheet (ledger r.sheet r.offers) ≡ r.report

-- ---- the rows' parts

abbrev pub ent : ℕ → ℕ → Entry
ent k n = record { account = k; amount = n }

-- code, register, value
abbrev pub op : ℕ → ℕ → ℕ → Operation
op c r n = record { code = c; register = r; value = n }

abbrev pub pay : List Entry → List Entry → Transaction
pay ds cs = record { kind = 0; debits = ds; credits = cs; operations = [] }

abbrev pub contract : List Entry → List Entry → List Operation → Transaction
contract ds cs ops = record { kind = 1; debits = ds; credits = cs; operations = ops }

-- instances, registers, balances, transactions
abbrev pub sheet_of : ℕ → ℕ → List ℕ → List Transaction → Sheet
sheet_of m g bs ts = record { m = m; a = length bs; g = g; balances = bs; transactions = ts }

-- instance, sequence number, rank, the first two cut entries, citations
abbrev pub blk : ℕ → ℕ → ℕ → ℕ → ℕ → List ℕ → Values
blk i s r c₀ c₁ xs = record { instance = i; number = s; rank = r; cut = c₀ ∷ c₁ ∷ replicate 14 0; cites = xs }

-- values, with just enough lent
abbrev pub offers_of : Sheet → List Values → List Offer
offers_of S [] = []
offers_of S (b ∷ l) = values (offer_needs S) b ∷ offers_of S l

-- log, settlements, free, held, registers, share
abbrev pub reads : List Ref → List Status → List ℕ → List ℕ → List ℕ → ℕ → Report
reads l ss f h rs n = record { log = l; settlements = ss; free = f; held = h; registers = rs; share = n }

-- a row of blocks that are offered as values
abbrev pub row : Sheet → List Values → List Answer → ℕ → Report → Row
row S bs rs b r = record { sheet = S; offers = offers_of S bs; answers = rs; bar = b; report = r }

abbrev pub yes : ℕ → List Answer
yes n = replicate n accepted

-- ---- the run of "One reading, whole"

abbrev pub whole_sheet : Sheet
whole_sheet = sheet_of 2 1 (10 ∷ 5 ∷ 0 ∷ []) (pay (ent 0 4 ∷ ent 1 5 ∷ []) (ent 2 9 ∷ []) ∷ contract (ent 2 6 ∷ []) (ent 1 6 ∷ []) (op 2 0 7 ∷ []) ∷ [])

-- "instance 1, number 1, rank 1, cut 0 0, cites 0; instance 0, number 1, rank 2, cut 0 1, cites 0 then 1"
abbrev pub whole_blocks : List Values
whole_blocks = blk 1 1 1 0 0 (0 ∷ []) ∷ blk 0 1 2 0 1 (0 ∷ 1 ∷ []) ∷ []

abbrev pub whole_report : Report
whole_report = reads (ref_of 1 0 ∷ ref_of 0 0 ∷ []) (paid ∷ paid ∷ []) (6 ∷ 6 ∷ 3 ∷ []) (0 ∷ 0 ∷ 0 ∷ []) (7 ∷ []) 1000

abbrev pub whole : Row
whole = row whole_sheet whole_blocks (yes 2) (key_of 2 1) whole_report

-- "the same with cut 0 0 in the second block: transaction 1 is returned, free 6, 0, 9, register 0". Not judged by what has arrived: transaction 0 is paid by then
abbrev pub cut_report : Report
cut_report = reads (ref_of 1 0 ∷ ref_of 0 0 ∷ []) (paid ∷ returned ∷ []) (6 ∷ 0 ∷ 9 ∷ []) (0 ∷ 0 ∷ 0 ∷ []) (0 ∷ []) 1000

abbrev pub cut_short : Row
cut_short = row whole_sheet (blk 1 1 1 0 0 (0 ∷ []) ∷ blk 0 1 2 0 0 (0 ∷ 1 ∷ []) ∷ []) (yes 2) (key_of 2 1) cut_report

-- ---- order alone: m instances, no transaction, blocks that cite nothing

abbrev pub order : ℕ → List Values → List Answer → ℕ → List Ref → Row
order m bs rs b l = row (sheet_of m 0 (1 ∷ []) []) bs rs b (reads l [] (1 ∷ []) (0 ∷ []) [] 1000)

-- "ranks 1, 3 in instance 0 and 2 in instance 1: bar (3, 1), all three in the log"
abbrev pub three : Row
three = order 2 (blk 0 1 1 0 0 [] ∷ blk 0 2 3 1 0 [] ∷ blk 1 1 2 0 0 [] ∷ []) (yes 3) (key_of 3 1) (ref_of 0 0 ∷ ref_of 1 0 ∷ ref_of 0 1 ∷ [])

-- "rank 1 in instance 0, rank 2 in instance 1: bar (2, 0), log holds only the first"
abbrev pub first_only : Row
first_only = order 2 (blk 0 1 1 0 0 [] ∷ blk 1 1 2 0 0 [] ∷ []) (yes 2) (key_of 2 0) (ref_of 0 0 ∷ [])

-- "one instance: everything is in the log"
abbrev pub alone : Row
alone = order 1 (blk 0 1 1 0 0 [] ∷ blk 0 2 2 1 0 [] ∷ blk 0 3 7 2 0 [] ∷ []) (yes 3) (key_of 8 0) (ref_of 0 0 ∷ ref_of 0 1 ∷ ref_of 0 2 ∷ [])

-- "With instance 0 at rank 1 and instance 1 empty the bar is (1, 1) and the block is in the log" (request 04; it replaces the edge "no block in one of two")
abbrev pub silent : Row
silent = order 2 (blk 0 1 1 0 0 [] ∷ []) (yes 1) (key_of 1 1) (ref_of 0 0 ∷ [])

-- "A view with no blocks at all still has an empty log" (request 04)
abbrev pub nothing : Row
nothing = order 2 [] [] (key_of 1 0) []

-- ---- one instance, a payment of 5 from account 0, which starts with n: "free 5 pays a debit of 5", "free 4 fails it"

abbrev pub pays : ℕ → Status → List ℕ → Row
pays n s fs = row (sheet_of 1 0 (n ∷ 0 ∷ []) (pay (ent 0 5 ∷ []) (ent 1 5 ∷ []) ∷ [])) (blk 0 1 1 0 0 (0 ∷ []) ∷ []) (yes 1) (key_of 2 0) (reads (ref_of 0 0 ∷ []) (s ∷ []) fs (0 ∷ 0 ∷ []) [] 1000)

-- ---- one instance, contracts cited in one block: their operations, what becomes of them, and the registers

-- 1 from account 0 to itself
abbrev pub works : List Operation → Transaction
works ops = contract (ent 0 1 ∷ []) (ent 0 1 ∷ []) ops

abbrev pub runs_ops : List Transaction → List ℕ → List Status → List ℕ → Row
runs_ops ts xs ss rs = row (sheet_of 1 (length rs) (9 ∷ []) ts) (blk 0 1 1 0 0 xs ∷ []) (yes 1) (key_of 2 0) (reads (ref_of 0 0 ∷ []) ss (9 ∷ []) (0 ∷ []) rs 1000)

-- "subtract 1 from a register holding 0 returns the contract"
abbrev pub below : Row
below = runs_ops (works (op 4 0 1 ∷ []) ∷ []) (0 ∷ []) (returned ∷ []) (0 ∷ [])

-- "add 1 to one holding 2^32 − 1 likewise"
abbrev pub above : Row
above = runs_ops (works (op 2 0 4294967295 ∷ []) ∷ works (op 3 0 1 ∷ []) ∷ []) (0 ∷ 1 ∷ []) (paid ∷ returned ∷ []) (4294967295 ∷ [])

abbrev pub marked : List Row
marked =
    whole ∷ cut_short ∷ three ∷ first_only ∷ alone ∷ silent ∷ nothing
    ∷ pays 5 paid (0 ∷ 5 ∷ [])
    ∷ pays 4 returned (4 ∷ 0 ∷ [])
    ∷ below ∷ above ∷ []
