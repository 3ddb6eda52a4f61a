-- Proof tools that only the contracts of inner functions cite, but for `as_ruled`: no reader of the rules needs them.
-- Assumes nothing.
use Rattle.std.specs.Prelude.{◌*◌, ◌+◌, ◌<◌, ◌≤◌, min, ℕ, eqb, ltb, get_or, length, set, take, Bool, List, ◌≡◌}
use Rattle.ordering.specs.Table.{count_in}
use Rattle.settlement.specs.Cells.{cell_in, flag_in}
use Rattle.settlement.specs.Books.{Book, Status, paid, pending, returned, settled}
use Rattle.settlement.specs.Settlement.{is_cite, is_fail}
use Rattle.settlement.specs.Tables.{code_of}
use Rattle.settlement.specs.declared.status.Status as declared
use Rattle.settlement.specs.View.{Event, Rows, View, event_at}
use Rattle.sheets.specs.Parts.{is_contract, parts}
use Rattle.sheets.specs.Sheet.{Sheet}
use Rattle.sums.specs.Fold.{fold_to}
use Rattle.sums.specs.Sum.{sum_to}
use Rattle.sums.specs.Test.{flip, pick}
use Rattle.sheets.specs.declared.sheet.Sizes.{Sizes}

-- ---- counting on cells. A count stops at 2^32 - 1, so that no view need be bounded

abbrev pub most : ℕ
most = 4294967295

unfoldable pub add_at : List ℕ → ℕ → ℕ → List ℕ
add_at c i n = set c i (min (get_or c i 0 + n) most)

-- one more citation of x, f of them failed
unfoldable pub count_one : List ℕ → ℕ → ℕ → List ℕ
count_one c x f = add_at (add_at c (2 * x) 1) (2 * x + 1) f

-- the citation at place p of instance j's row, where it is of one of t transactions
unfoldable pub count_at : ℕ → List ℕ → List ℕ → ℕ → ℕ → List ℕ → List ℕ
count_at t cites good j p c = pick (ltb (cell_in cites j p) t) (count_one c (cell_in cites j p) (flip (flag_in good j p))) c

-- the first n places of the row
unfoldable pub count_row : ℕ → List ℕ → List ℕ → ℕ → ℕ → List ℕ → List ℕ
count_row t cites good j n c = fold_to n (count_at t cites good j) c

-- the places of a view in the first m rows
unfoldable pub count_rows : ℕ → List ℕ → List ℕ → List ℕ → ℕ → List ℕ → List ℕ
count_rows t cites good view m c = fold_to m (λ j. count_row t cites good j (count_in view j)) c

-- ---- what the counts hold

pub record Tally : Type 0 where
  pub cited : ℕ → ℕ
  pub failed : ℕ → ℕ

-- the cells c hold the tally T of t transactions, and from 2 t on are as in o
pub record Counts (t : ℕ) (o : List ℕ) (T : Tally) (c : List ℕ) : Type 0 where
  pub cited : (x : ℕ) → x < t → get_or c (2 * x) 0 ≡ min (T.cited x) most
  pub failed : (x : ℕ) → x < t → get_or c (2 * x + 1) 0 ≡ min (T.failed x) most
  pub size : length c ≡ length o
  pub past : (i : ℕ) → 2 * t ≤ i → get_or c i 0 ≡ get_or o i 0

abbrev pub no_tally : Tally
no_tally = record { cited = λ y. 0; failed = λ y. 0 }

-- a citation of x
abbrev pub event_of : ℕ → Bool → Event
event_of x g = record { tx = x; good = g }

-- the tally T with one event more
abbrev pub with_event : Event → Tally → Tally
with_event e T = record { cited = λ y. T.cited y + is_cite y e; failed = λ y. T.failed y + is_fail y e }

-- with the events f 0 .. f (n - 1)
abbrev pub with_row : ℕ → (ℕ → Event) → Tally → Tally
with_row n f T = record { cited = λ y. T.cited y + sum_to n (λ p. is_cite y (f p)); failed = λ y. T.failed y + sum_to n (λ p. is_fail y (f p)) }

-- with the first v j events of each row j below n
abbrev pub with_rows : ℕ → Rows → View → Tally → Tally
with_rows n R v T = record {
  cited = λ y. T.cited y + sum_to n (λ j. sum_to (v j) (λ p. is_cite y (event_at R j p)));
  failed = λ y. T.failed y + sum_to n (λ j. sum_to (v j) (λ p. is_fail y (event_at R j p)));
}

-- ---- contracts

-- the tables hold a book, and past their t transactions are as in c₀ and t₀
pub record Holds (z : Sizes) (c₀ t₀ : List ℕ) (s : Book) (counts table cells : List ℕ) : Type 0 where
  pub counted : Counts z.t c₀ (record { cited = s.seen; failed = s.spoiled }) counts
  pub status : (x : ℕ) → x < z.t → get_or table x 0 ≡ code_of (s.status x)
  pub size : length table ≡ length t₀
  pub past : (x : ℕ) → z.t ≤ x → get_or table x 0 ≡ get_or t₀ x 0
  pub registers : take z.g cells ≡ s.registers

-- the step for a contract, once its citation is counted
unfoldable pub settled_if : Sheet → Book → ℕ → Book
settled_if S s x = pick (eqb (s.seen x) (parts S x)) (settled S s x) s

-- ---- statuses

-- the rules' status for the code's
abbrev pub as_ruled : declared.Status → Status
as_ruled declared.Status.Open = pending
as_ruled declared.Status.Paid = paid
as_ruled declared.Status.Returned = returned

-- ---- payments, from counts

unfoldable pub payment_of : ℕ → ℕ → ℕ → Status
payment_of failed cited parts = pick (eqb failed 0) (pick (eqb cited parts) paid pending) returned

-- what the counts make of transaction x, written to the table if it is a payment
unfoldable pub pay_at : Sheet → List ℕ → ℕ → List ℕ → List ℕ
pay_at S counts x t = pick (is_contract S x) t (set t x (code_of (payment_of (get_or counts (2 * x + 1) 0) (get_or counts (2 * x) 0) (parts S x))))

unfoldable pub pay_to : Sheet → List ℕ → ℕ → List ℕ → List ℕ
pay_to S counts n t = fold_to n (pay_at S counts) t
