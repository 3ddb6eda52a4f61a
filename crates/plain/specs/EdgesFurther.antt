-- Rows beside the marked ones: the readings that seem right but are not (document 01), and for each rule a run that a near miss of it reads otherwise. Each says what it catches.
-- Assumes nothing.
use Rattle.std.specs.Prelude.{◌-◌, ℕ, List, [], ◌++◌, ◌∷◌}
use Rattle.ordering.specs.Order.{Ref, key_of, ref_of}
use Rattle.plain.specs.Answer.{accepted, refused}
use Rattle.plain.specs.Edges.{Row, blk, contract, cut_report, ent, marked, op, order, pay, reads, row, runs_ops, sheet_of, whole_report, whole_sheet, works, yes}
use Rattle.plain.specs.EdgesShare.{rounded}
use Rattle.plain.specs.Logs.{Values}
use Rattle.plain.specs.Offers.{Offer, frame, offer_needs}
use Rattle.sums.specs.Seq.{tabulate}
use Rattle.settlement.specs.Books.{Status, paid, pending, returned}
use Rattle.sheets.specs.Sheet.{Sheet}

-- ---- readings that seem right

-- "Judging a debit by the balance on arrival": the blocks of the second marked row, offered the other way round, read the same
abbrev pub other_way : Row
other_way = row whole_sheet (blk 0 1 2 0 0 (0 ∷ 1 ∷ []) ∷ blk 1 1 1 0 0 (0 ∷ []) ∷ []) (yes 2) (key_of 2 1) cut_report

-- two instances, of which one has no block, so that a block of rank 2 is not below the bar; a contract over 5 from account 0, which starts with n. It waits
-- for its place in the log:
-- "Counting a contract's credit when its parts are good though it has not run" (n 7); "Returning a contract as soon as a part fails", and a failed part reserves nothing (n 4)
abbrev pub waits : ℕ → ℕ → ℕ → Row
waits n f h = row (sheet_of 2 0 (n ∷ 0 ∷ []) (contract (ent 0 5 ∷ []) (ent 1 5 ∷ []) [] ∷ []))
    (blk 0 1 2 0 0 (0 ∷ []) ∷ []) (yes 1) (key_of 1 1)
    (reads [] (pending ∷ []) (f ∷ 0 ∷ []) (h ∷ 0 ∷ []) [] 0)

-- a contract of which one part is good and one failed. While the second's block is not below the bar it is open, and the good part is held
abbrev pub doomed_sheet : Sheet
doomed_sheet = sheet_of 2 1 (5 ∷ 4 ∷ []) (contract (ent 0 5 ∷ ent 1 5 ∷ []) (ent 0 10 ∷ []) (op 2 0 7 ∷ []) ∷ [])

abbrev pub doomed : Row
doomed = row doomed_sheet (blk 0 1 1 0 0 (0 ∷ []) ∷ blk 1 1 2 0 0 (0 ∷ []) ∷ []) (yes 2) (key_of 2 0)
    (reads (ref_of 0 0 ∷ []) (pending ∷ []) (0 ∷ 4 ∷ []) (5 ∷ 0 ∷ []) (0 ∷ []) 0)

-- one block more moves the bar: it is returned, what it held is free, and its operations are not done
abbrev pub ended : Row
ended = row doomed_sheet (blk 0 1 1 0 0 (0 ∷ []) ∷ blk 1 1 2 0 0 (0 ∷ []) ∷ blk 0 2 3 1 0 [] ∷ []) (yes 3) (key_of 3 1)
    (reads (ref_of 0 0 ∷ ref_of 1 0 ∷ ref_of 0 1 ∷ []) (returned ∷ []) (5 ∷ 4 ∷ []) (0 ∷ 0 ∷ []) (0 ∷ []) 1000)

-- a part of two debits, the first covered and the second not: it fails, and reserves nothing on either account
abbrev pub partly : Row
partly = row (sheet_of 2 0 (1 ∷ 0 ∷ 4 ∷ []) (contract (ent 0 1 ∷ ent 2 5 ∷ []) (ent 1 6 ∷ []) [] ∷ []))
    (blk 0 1 2 0 0 (0 ∷ []) ∷ []) (yes 1) (key_of 1 1)
    (reads [] (pending ∷ []) (1 ∷ 0 ∷ 4 ∷ []) (0 ∷ 0 ∷ 0 ∷ []) [] 0)

-- ---- views

-- one instance: a contract pays 5 to account 1, which two payments spend. The one in the contract's own block fails, for an unfinished block counts neither for the bar nor for the log;
-- the one in the next block is paid
abbrev pub unfinished : Row
unfinished = row (sheet_of 1 0 (5 ∷ 0 ∷ []) (contract (ent 0 5 ∷ []) (ent 1 5 ∷ []) [] ∷ pay (ent 1 5 ∷ []) (ent 0 5 ∷ []) ∷ pay (ent 1 5 ∷ []) (ent 0 5 ∷ []) ∷ []))
    (blk 0 1 1 0 0 (0 ∷ 1 ∷ []) ∷ blk 0 2 2 1 0 (2 ∷ []) ∷ []) (yes 2) (key_of 3 0)
    (reads (ref_of 0 0 ∷ ref_of 0 1 ∷ []) (paid ∷ returned ∷ paid ∷ []) (5 ∷ 0 ∷ []) (0 ∷ 0 ∷ []) [] 1000)

-- "the view of a first block holds no block of its own instance", which then counts as having last rank 0. A contract in a block of rank r pays 5 to account 1,
-- and instance 1 spends them in its first block and again in its second. At rank 2 the contract is not in the log of the first block's view, so that the
-- second is paid; at rank 1 it is ("Logs, printed or in a cut's view", request 04)
abbrev pub spends : ℕ → ℕ → List Ref → Status → Status → Row
spends r b l s s' = row
    (sheet_of 2 0 (5 ∷ 0 ∷ []) (contract (ent 0 5 ∷ []) (ent 1 5 ∷ []) [] ∷ pay (ent 1 5 ∷ []) (ent 0 5 ∷ []) ∷ pay (ent 1 5 ∷ []) (ent 0 5 ∷ []) ∷ []))
    (blk 0 1 r 0 0 (0 ∷ []) ∷ blk 1 1 1 1 0 (1 ∷ []) ∷ blk 1 2 2 1 1 (2 ∷ []) ∷ []) (yes 3) b
    (reads l (paid ∷ s ∷ s' ∷ []) (5 ∷ 0 ∷ []) (0 ∷ 0 ∷ []) [] 1000)

abbrev pub first_view : Row
first_view = spends 2 (key_of 3 0) (ref_of 1 0 ∷ ref_of 0 0 ∷ ref_of 1 1 ∷ []) returned paid

abbrev pub first_sees : Row
first_sees = spends 1 (key_of 2 0) (ref_of 0 0 ∷ ref_of 1 0 ∷ []) paid returned

-- a view holds whole blocks of the others: the credit of the second block of instance 1 counts under the cut 0 2
abbrev pub two_seen : Row
two_seen = row (sheet_of 2 0 (0 ∷ 6 ∷ []) (pay (ent 1 1 ∷ []) (ent 1 1 ∷ []) ∷ pay (ent 1 5 ∷ []) (ent 0 5 ∷ []) ∷ pay (ent 0 5 ∷ []) (ent 1 5 ∷ []) ∷ []))
    (blk 1 1 1 0 0 (0 ∷ []) ∷ blk 1 2 2 0 1 (1 ∷ []) ∷ blk 0 1 2 0 2 (2 ∷ []) ∷ []) (yes 3) (key_of 3 0)
    (reads (ref_of 1 0 ∷ ref_of 0 0 ∷ ref_of 1 1 ∷ []) (paid ∷ paid ∷ paid ∷ []) (0 ∷ 6 ∷ []) (0 ∷ 0 ∷ []) [] 1000)

-- earlier citations of the own block reserve, and so do earlier blocks: of 9, two debits of 5 in one block, then one of 4. The failed one reserves nothing
abbrev pub spent_once : Row
spent_once = row (sheet_of 1 0 (9 ∷ 0 ∷ []) (pay (ent 0 5 ∷ []) (ent 1 5 ∷ []) ∷ pay (ent 0 5 ∷ []) (ent 1 5 ∷ []) ∷ pay (ent 0 4 ∷ []) (ent 1 4 ∷ []) ∷ []))
    (blk 0 1 1 0 0 (0 ∷ 1 ∷ []) ∷ blk 0 2 2 1 0 (2 ∷ []) ∷ []) (yes 2) (key_of 3 0)
    (reads (ref_of 0 0 ∷ ref_of 0 1 ∷ []) (paid ∷ returned ∷ paid ∷ []) (0 ∷ 9 ∷ []) (0 ∷ 0 ∷ []) [] 1000)

-- a payment that lacks a part reserves all the same
abbrev pub held_back : Row
held_back = row (sheet_of 2 0 (9 ∷ 5 ∷ []) (pay (ent 0 5 ∷ ent 1 5 ∷ []) (ent 0 10 ∷ []) ∷ pay (ent 0 5 ∷ []) (ent 1 5 ∷ []) ∷ []))
    (blk 0 1 1 0 0 (0 ∷ 1 ∷ []) ∷ []) (yes 1) (key_of 1 1)
    (reads (ref_of 0 0 ∷ []) (pending ∷ returned ∷ []) (4 ∷ 5 ∷ []) (5 ∷ 0 ∷ []) [] 500)

-- what a payment reserved is free again in the views that hold its failed part, and only in those: the second block of instance 0 does not see it, the third does. Each block is judged by its own cut
abbrev pub freed : Row
freed = row (sheet_of 2 0 (5 ∷ 4 ∷ []) (pay (ent 0 5 ∷ ent 1 5 ∷ []) (ent 0 10 ∷ []) ∷ pay (ent 0 5 ∷ []) (ent 1 5 ∷ []) ∷ pay (ent 0 5 ∷ []) (ent 1 5 ∷ []) ∷ []))
    (blk 1 1 1 0 0 (0 ∷ []) ∷ blk 0 1 1 0 0 (0 ∷ []) ∷ blk 0 2 2 1 0 (1 ∷ []) ∷ blk 0 3 3 2 1 (2 ∷ []) ∷ []) (yes 4) (key_of 2 1)
    (reads (ref_of 0 0 ∷ ref_of 1 0 ∷ ref_of 0 1 ∷ []) (returned ∷ returned ∷ paid ∷ []) (0 ∷ 9 ∷ []) (0 ∷ 0 ∷ []) [] 1000)

-- "The outcome is never changed": instance 2 sees the block of instance 1 and not the one that it rests on
abbrev pub not_closed : Row
not_closed = row (sheet_of 3 0 (5 ∷ 0 ∷ 0 ∷ []) (pay (ent 0 5 ∷ []) (ent 1 5 ∷ []) ∷ pay (ent 1 5 ∷ []) (ent 2 5 ∷ []) ∷ pay (ent 2 5 ∷ []) (ent 0 5 ∷ []) ∷ []))
    (blk 0 1 1 0 0 (0 ∷ []) ∷ blk 1 1 2 1 0 (1 ∷ []) ∷ blk 2 1 3 0 1 (2 ∷ []) ∷ []) (yes 3) (key_of 2 0)
    (reads (ref_of 0 0 ∷ []) (paid ∷ paid ∷ paid ∷ []) (5 ∷ 0 ∷ 0 ∷ []) (0 ∷ 0 ∷ 0 ∷ []) [] 1000)

-- an outcome rests on one that rests on a third: 5 goes from account 0 to 1, to 2 and back to 1, if account 0 starts with 5; if with 4, nothing goes
abbrev pub chain : ℕ → Status → List ℕ → Row
chain n s fs = row (sheet_of 2 0 (n ∷ 0 ∷ 0 ∷ []) (pay (ent 0 5 ∷ []) (ent 1 5 ∷ []) ∷ pay (ent 1 5 ∷ []) (ent 2 5 ∷ []) ∷ pay (ent 2 5 ∷ []) (ent 1 5 ∷ []) ∷ []))
    (blk 0 1 1 0 0 (0 ∷ []) ∷ blk 1 1 2 1 0 (1 ∷ []) ∷ blk 0 2 3 1 1 (2 ∷ []) ∷ []) (yes 3) (key_of 3 1)
    (reads (ref_of 0 0 ∷ ref_of 1 0 ∷ ref_of 0 1 ∷ []) (s ∷ s ∷ s ∷ []) fs (0 ∷ 0 ∷ 0 ∷ []) [] 1000)

-- ---- order

-- sixteen instances, a block of rank 1 each, the last instance first: pairs are compared by rank, then by instance
abbrev pub sixteen : Row
sixteen = order 16 (tabulate 16 (λ i. blk (15 - i) 1 1 0 0 [])) (yes 16) (key_of 2 0) (tabulate 16 (λ i. ref_of i 0))

-- the rank counts before the instance: the last blocks have rank 3 in instance 0 and 2 in instance 1, so the bar is (3, 1), just above the block of rank 3
abbrev pub by_rank : Row
by_rank = order 2 (blk 0 1 3 0 0 [] ∷ blk 1 1 1 0 0 [] ∷ blk 1 2 2 0 1 [] ∷ []) (yes 3) (key_of 3 1) (ref_of 1 0 ∷ ref_of 1 1 ∷ ref_of 0 0 ∷ [])

-- ---- an instance without a block (request 04): the bar is (1, the lowest such instance)

-- instance 0 of two: nothing is in the log
abbrev pub first_empty : Row
first_empty = order 2 (blk 1 1 1 0 0 [] ∷ []) (yes 1) (key_of 1 0) []

-- the middle one of three: of two blocks of rank 1 the lower instance's is in the log
abbrev pub middle_empty : Row
middle_empty = order 3 (blk 2 1 1 0 0 [] ∷ blk 0 1 1 0 0 [] ∷ []) (yes 2) (key_of 1 1) (ref_of 0 0 ∷ [])

-- the last of three: both blocks of rank 1 are, the one of rank 2 is not
abbrev pub last_empty : Row
last_empty = order 3 (blk 1 1 1 0 0 [] ∷ blk 0 1 1 0 0 [] ∷ blk 0 2 2 1 0 [] ∷ []) (yes 3) (key_of 1 2) (ref_of 0 0 ∷ ref_of 1 0 ∷ [])

-- instance 1 starts late, at rank 1: its block comes after the one that is logged, and before one that had waited for it
abbrev pub before_start : List Values
before_start = blk 0 1 1 0 0 [] ∷ blk 0 2 2 1 0 [] ∷ blk 2 1 3 0 0 [] ∷ []

abbrev pub not_started : Row
not_started = order 3 before_start (yes 3) (key_of 1 1) (ref_of 0 0 ∷ [])

abbrev pub starts_late : Row
starts_late = order 3 (before_start ++ (blk 1 1 1 0 0 [] ∷ [])) (yes 4) (key_of 2 1) (ref_of 0 0 ∷ ref_of 1 0 ∷ ref_of 0 1 ∷ [])

-- ---- settlement of payments

-- a part that failed returns the payment though the other part was never cited; a good part without the other is held. "share" is 500
abbrev pub missing : Row
missing = row (sheet_of 2 0 (4 ∷ 1 ∷ 3 ∷ []) (pay (ent 0 5 ∷ ent 1 1 ∷ []) (ent 2 6 ∷ []) ∷ pay (ent 2 1 ∷ ent 1 1 ∷ []) (ent 0 2 ∷ []) ∷ []))
    (blk 0 1 1 0 0 (0 ∷ 1 ∷ []) ∷ []) (yes 1) (key_of 1 1)
    (reads (ref_of 0 0 ∷ []) (returned ∷ pending ∷ []) (4 ∷ 1 ∷ 2 ∷ []) (0 ∷ 0 ∷ 1 ∷ []) [] 500)

-- the good part of a returned payment is given back
abbrev pub given_back : Row
given_back = row (sheet_of 2 0 (5 ∷ 4 ∷ []) (pay (ent 0 5 ∷ ent 1 5 ∷ []) (ent 0 10 ∷ []) ∷ [])) (blk 0 1 1 0 0 (0 ∷ []) ∷ blk 1 1 1 0 0 (0 ∷ []) ∷ []) (yes 2) (key_of 2 0)
    (reads (ref_of 0 0 ∷ ref_of 1 0 ∷ []) (returned ∷ []) (5 ∷ 4 ∷ []) (0 ∷ 0 ∷ []) [] 1000)

-- two debits in one instance are one part, booked by one citation
abbrev pub one_part : Row
one_part = row (sheet_of 2 0 (1 ∷ 0 ∷ 2 ∷ []) (pay (ent 0 1 ∷ ent 2 2 ∷ []) (ent 1 3 ∷ []) ∷ [])) (blk 0 1 1 0 0 (0 ∷ []) ∷ []) (yes 1) (key_of 1 1)
    (reads (ref_of 0 0 ∷ []) (paid ∷ []) (0 ∷ 3 ∷ 0 ∷ []) (0 ∷ 0 ∷ 0 ∷ []) [] 1000)

-- an account pays itself: judged before its own credit, 6 out of 5 fails and 5 is paid. Two of three settled, one paid and one returned: 666.7 is 667
abbrev pub self_paid : Row
self_paid = row (sheet_of 1 0 (5 ∷ []) (pay (ent 0 6 ∷ []) (ent 0 6 ∷ []) ∷ pay (ent 0 5 ∷ []) (ent 0 5 ∷ []) ∷ pay (ent 0 1 ∷ []) (ent 0 1 ∷ []) ∷ []))
    (blk 0 1 1 0 0 (0 ∷ 1 ∷ []) ∷ []) (yes 1) (key_of 2 0)
    (reads (ref_of 0 0 ∷ []) (returned ∷ paid ∷ pending ∷ []) (5 ∷ []) (0 ∷ []) [] 667)

-- ---- contracts

-- it runs at the citation that comes last in the log, not at its first: by then the contract between the two has set the register to 7
abbrev pub runs_last : Row
runs_last = row (sheet_of 2 1 (1 ∷ 2 ∷ []) (contract (ent 0 1 ∷ ent 1 1 ∷ []) (ent 0 2 ∷ []) (op 0 0 7 ∷ []) ∷ contract (ent 1 1 ∷ []) (ent 1 1 ∷ []) (op 2 0 7 ∷ []) ∷ []))
    (blk 1 1 1 0 0 (0 ∷ 1 ∷ []) ∷ blk 0 1 2 0 0 (0 ∷ []) ∷ []) (yes 2) (key_of 2 1)
    (reads (ref_of 1 0 ∷ ref_of 0 0 ∷ []) (paid ∷ paid ∷ []) (2 ∷ 1 ∷ []) (0 ∷ 0 ∷ []) (7 ∷ []) 1000)

-- "Contracts run in log order", not as they arrive: the block of rank 1 comes second and runs first
abbrev pub log_order : Row
log_order = row (sheet_of 2 1 (1 ∷ 1 ∷ []) (contract (ent 0 1 ∷ []) (ent 0 1 ∷ []) (op 0 0 7 ∷ []) ∷ contract (ent 1 1 ∷ []) (ent 1 1 ∷ []) (op 2 0 7 ∷ []) ∷ []))
    (blk 0 1 2 0 0 (0 ∷ []) ∷ blk 1 1 1 0 0 (1 ∷ []) ∷ []) (yes 2) (key_of 2 1)
    (reads (ref_of 1 0 ∷ ref_of 0 0 ∷ []) (paid ∷ paid ∷ []) (1 ∷ 1 ∷ []) (0 ∷ 0 ∷ []) (7 ∷ []) 1000)

-- the second citation of a second block runs too
abbrev pub second_block : Row
second_block = row (sheet_of 1 1 (9 ∷ []) (works (op 2 0 7 ∷ []) ∷ works (op 0 0 7 ∷ []) ∷ [])) (blk 0 1 1 0 0 [] ∷ blk 0 2 2 1 0 (0 ∷ 1 ∷ []) ∷ []) (yes 2) (key_of 3 0)
    (reads (ref_of 0 0 ∷ ref_of 0 1 ∷ []) (paid ∷ paid ∷ []) (9 ∷ []) (0 ∷ []) (7 ∷ []) 1000)

-- ---- operations

-- 1 passes at the value and above it, not below; 0 at the value alone
abbrev pub tests : Row
tests = runs_ops
    (works (op 2 0 5 ∷ op 1 0 5 ∷ op 1 0 4 ∷ op 0 0 5 ∷ []) ∷ works (op 1 0 6 ∷ []) ∷ works (op 0 0 4 ∷ []) ∷ works (op 0 0 6 ∷ []) ∷ [])
    (0 ∷ 1 ∷ 2 ∷ 3 ∷ []) (paid ∷ returned ∷ returned ∷ returned ∷ []) (5 ∷ [])

-- each sees the earlier ones, in the register that it names: set 2, add 3, subtract 5, equal 0; set 9, set 1, add 2^32 − 2
abbrev pub sees : Row
sees = runs_ops (works (op 2 0 2 ∷ op 3 0 3 ∷ op 4 0 5 ∷ op 0 0 0 ∷ op 2 1 9 ∷ op 2 1 1 ∷ op 3 1 4294967294 ∷ []) ∷ []) (0 ∷ []) (paid ∷ []) (0 ∷ 4294967295 ∷ [])

-- all or nothing: a last operation that does not pass undoes the earlier ones; one that does not pass is not mended by a later one
abbrev pub undone : Row
undone = runs_ops (works (op 2 0 7 ∷ op 4 0 9 ∷ []) ∷ works (op 2 0 4294967295 ∷ op 3 0 1 ∷ op 4 0 1 ∷ []) ∷ []) (0 ∷ 1 ∷ []) (returned ∷ returned ∷ []) (0 ∷ [])

-- ---- what is turned away, and what is offered as slips

-- what a refused block cites is not cited, its number is not taken and its rank not passed; a block that stands is not taken twice
abbrev pub resent : Row
resent = row (sheet_of 1 0 (5 ∷ []) (pay (ent 0 1 ∷ []) (ent 0 1 ∷ []) ∷ [])) (blk 0 1 0 0 0 (0 ∷ []) ∷ blk 0 1 9 1 0 (0 ∷ []) ∷ blk 0 1 1 0 0 (0 ∷ []) ∷ blk 0 1 1 0 0 (0 ∷ []) ∷ [])
    (refused 10 0 ∷ refused 11 0 ∷ accepted ∷ refused 9 2 ∷ []) (key_of 2 0)
    (reads (ref_of 0 0 ∷ []) (paid ∷ []) (5 ∷ []) (0 ∷ []) [] 1000)

-- the two blocks of "One reading, whole" as slips
abbrev pub whole_bytes : List ℕ
whole_bytes =
    18 ∷ 0 ∷ 0 ∷ 0 ∷ 4 ∷ 0 ∷ 1 ∷ 0 ∷ 1 ∷ 0 ∷ 1 ∷ 0 ∷ 0 ∷ 0 ∷ 1 ∷ 0 ∷ 0 ∷ 0 ∷ 0 ∷ 0 ∷ 0 ∷ 0
    ∷ 20 ∷ 0 ∷ 0 ∷ 0 ∷ 4 ∷ 0 ∷ 0 ∷ 0 ∷ 1 ∷ 0 ∷ 2 ∷ 0 ∷ 0 ∷ 0 ∷ 2 ∷ 0 ∷ 0 ∷ 0 ∷ 1 ∷ 0 ∷ 0 ∷ 0 ∷ 1 ∷ 0 ∷ []

abbrev pub whole_frames : List Offer
whole_frames = frame (offer_needs whole_sheet) whole_bytes 0 ∷ frame (offer_needs whole_sheet) whole_bytes 22 ∷ []

abbrev pub as_frames : Row
as_frames = record { sheet = whole_sheet; offers = whole_frames; answers = yes 2; bar = key_of 2 1; report = whole_report }

-- the same blocks as values whose cut stops at the sheet's instances: a cut is sixteen counts whatever it is read from
abbrev pub whole_short : List Values
whole_short = record { instance = 1; number = 1; rank = 1; cut = 0 ∷ 0 ∷ []; cites = 0 ∷ [] } ∷ record { instance = 0; number = 1; rank = 2; cut = 0 ∷ 1 ∷ []; cites = 0 ∷ 1 ∷ [] } ∷ []

abbrev pub further : List Row
further =
    other_way ∷ waits 7 2 5 ∷ waits 4 4 0 ∷ doomed ∷ ended ∷ partly
    ∷ unfinished ∷ first_view ∷ first_sees ∷ two_seen ∷ spent_once ∷ held_back ∷ freed ∷ not_closed
    ∷ chain 5 paid (0 ∷ 5 ∷ 0 ∷ [])
    ∷ chain 4 returned (4 ∷ 0 ∷ 0 ∷ [])
    ∷ sixteen ∷ by_rank
    ∷ first_empty ∷ middle_empty ∷ last_empty ∷ not_started ∷ starts_late
    ∷ missing ∷ given_back ∷ one_part ∷ self_paid ∷ runs_last ∷ log_order ∷ second_block ∷ tests ∷ sees ∷ undone ∷ resent ∷ as_frames ∷ []

abbrev pub table : List Row
table = marked ++ (further ++ rounded)
