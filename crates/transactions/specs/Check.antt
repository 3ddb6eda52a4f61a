-- The check of a transaction: refusals 4 to 7, in this order. a and g are the sheet's accounts and registers.
-- Assumes nothing.
use Rattle.std.specs.Prelude.{ℕ, eqb, leb, ltb, length, Bool, not, true, List, Ok, Err}
use Rattle.sums.specs.Sum.{sum_to}
use Rattle.sums.specs.Test.{all_to, both, pick}
use Rattle.transactions.specs.Body.{end_due, transaction_of}
use Rattle.transactions.specs.Content.{Entry, Operation, Transaction, entry_of, operation_of}
use Rattle.refusals.specs.Refusals.{Checked}
use Rattle.refusals.specs.declared.Refusal.TheVariants.{AccountTwice, BodyLength, OutOfRange, SumsDiffer}

-- refusal 5: "an account .. not on the sheet"; an amount is "at least 1"
unfoldable pub entry_ok : ℕ → Entry → Bool
entry_ok a e = both (ltb e.account a) (leb 1 e.amount)

-- refusal 5: a code is one that the rules name, 0 to 4; a register is on the sheet
unfoldable pub operation_ok : ℕ → Operation → Bool
operation_ok g o = both (leb o.code 4) (ltb o.register g)

-- refusal 5: "type (0 payment, 1 contract), d debits (1 to 4), c credits (1 to 4), o operations (0 to 8; 0 in a payment)"
unfoldable pub counts_ok : ℕ → ℕ → ℕ → ℕ → Bool
counts_ok kind d c o =
    both (leb kind 1)
    (both (leb 1 d)
    (both (leb d 4)
    (both (leb 1 c)
    (both (leb c 4)
    (both (leb o 8) (pick (eqb kind 0) (eqb o 0) true))))))

-- all of n entries, and all of n operations
abbrev pub entries_ok : ℕ → ℕ → (ℕ → Entry) → Bool
entries_ok a n e = all_to n (λ k. entry_ok a (e k))

abbrev pub operations_ok : ℕ → ℕ → (ℕ → Operation) → Bool
operations_ok g n o = all_to n (λ k. operation_ok g (o k))

-- refusal 5 does not apply
unfoldable pub in_range : ℕ → ℕ → Transaction → Bool
in_range a g t =
    both (counts_ok t.kind (length t.debits) (length t.credits) (length t.operations))
    (both (entries_ok a (length t.debits) (entry_of t.debits))
    (both (entries_ok a (length t.credits) (entry_of t.credits)) (operations_ok g (length t.operations) (operation_of t.operations))))

-- of some entries, none before the k-th names its account
abbrev pub new_at : (ℕ → Entry) → ℕ → Bool
new_at e k = all_to k (λ j. not (eqb (e j).account (e k).account))

abbrev pub distinct : ℕ → (ℕ → Entry) → Bool
distinct n e = all_to n (new_at e)

-- refusal 6, "an account twice in the debits, or twice in the credits", does not apply. A debit and a credit may name the same account
unfoldable pub accounts_once : Transaction → Bool
accounts_once t = both (distinct (length t.debits) (entry_of t.debits)) (distinct (length t.credits) (entry_of t.credits))

-- the sum of n amounts, as a number: it does not wrap
abbrev pub amounts : ℕ → (ℕ → Entry) → ℕ
amounts n e = sum_to n (λ k. (e k).amount)

-- refusal 7, "debits and credits differ in sum", does not apply
unfoldable pub balanced : Transaction → Bool
balanced t = eqb (amounts (length t.debits) (entry_of t.debits)) (amounts (length t.credits) (entry_of t.credits))

-- refusals 5, 6 and 7 over the whole transaction, in this order; at is the place that the refusal gives
unfoldable pub judge_transaction : ℕ → ℕ → ℕ → Transaction → Checked
judge_transaction at a g t =
    pick (not (in_range a g t)) (Err (OutOfRange at))
    (pick (not (accounts_once t)) (Err (AccountTwice at))
    (pick (not (balanced t)) (Err (SumsDiffer at)) (Ok tt)))

-- refusal 4, "body length not the one of the kinds table (.. by its counts), or too short to hold them", then 5, 6 and 7: the check of a body, of a frame at the offset at
unfoldable pub check_transaction : List ℕ → ℕ → ℕ → ℕ → Checked
check_transaction b at a g =
    pick (ltb (length b) 4) (Err (BodyLength at))
    (pick (not (eqb (length b) (end_due b))) (Err (BodyLength at)) (judge_transaction at a g (transaction_of b)))
