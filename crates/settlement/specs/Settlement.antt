-- Settlement in a view (document 01).
-- Assumes nothing.
use Rattle.std.specs.Prelude.{ℕ, eqb, ltb}
use Rattle.settlement.specs.Books.{Book, Status, empty_book, paid, pending, returned, run_all}
use Rattle.settlement.specs.View.{Event, Rows, View, log_events, view_log, view_sum}
use Rattle.sheets.specs.Parts.{is_contract, parts}
use Rattle.sheets.specs.Sheet.{Sheet, tx_count}
use Rattle.sums.specs.Test.{flip, given, pick}

-- 1 for a citation of x; 1 for one that failed
unfoldable pub is_cite : ℕ → Event → ℕ
is_cite x e = given (eqb e.tx x) 1

unfoldable pub is_fail : ℕ → Event → ℕ
is_fail x e = given (eqb e.tx x) (flip e.good)

-- how many citations of x the view holds, and how many of them failed; on accepted logs each is another part
unfoldable pub cited : Sheet → Rows → View → ℕ → ℕ
cited S R v x = view_sum S R v (is_cite x)

unfoldable pub failed : Sheet → Rows → View → ℕ → ℕ
failed S R v x = view_sum S R v (is_fail x)

-- "A payment is returned if some part in the view failed, paid if all parts are there and good, else open"
unfoldable pub payment : Sheet → Rows → View → ℕ → Status
payment S R v x = pick (eqb (failed S R v x) 0) (pick (eqb (cited S R v x) (parts S x)) paid pending) returned

-- "Contracts run in log order, and within a block in citation order"
unfoldable pub contracts : Sheet → Rows → View → Book
contracts S R v = run_all S (empty_book S) (log_events R (view_log S R v))

-- the settlement of x; a number that is no transaction's is pending
unfoldable pub status : Sheet → Rows → View → ℕ → Status
status S R v x = pick (ltb x (tx_count S)) (pick (is_contract S x) ((contracts S R v).status x) (payment S R v x)) pending
