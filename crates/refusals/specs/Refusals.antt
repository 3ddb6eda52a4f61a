-- "a definition gives this paper's number and values for each case of the enum": the table of document 01, "What the caller gets when a slip or block is turned away".
-- Assumes nothing.
use Rattle.std.specs.Prelude.{ℕ, Result}
use Rattle.refusals.specs.declared.Refusal.{Refusal}
use Rattle.refusals.specs.declared.Refusal.TheVariants.{AccountTwice, BadLength, BodyLength, BufferShort, CitedBefore, EntryAhead, EntryBack, KindNotDue, LogFull, NoInstance, NoPart, NoTransaction, NotNumberDue, OutOfRange, RankNotAbove, Short, SumsDiffer}

-- the column "Returned", its number
abbrev pub refusal_number : Refusal → ℕ
refusal_number (Short at) = 1
refusal_number (BadLength at) = 2
refusal_number (KindNotDue at) = 3
refusal_number (BodyLength at) = 4
refusal_number (OutOfRange at) = 5
refusal_number (AccountTwice at) = 6
refusal_number (SumsDiffer at) = 7
refusal_number NoInstance = 8
refusal_number (NotNumberDue due) = 9
refusal_number (RankNotAbove last) = 10
refusal_number (EntryBack entry) = 11
refusal_number (EntryAhead entry) = 12
refusal_number (NoTransaction k) = 13
refusal_number (NoPart k) = 14
refusal_number (CitedBefore k) = 15
refusal_number (BufferShort least) = 16
refusal_number LogFull = 17

-- the column "Returned", what stands beside the number: the frame's offset (1 to 7), the number due (9), the last rank (10), the entry (11, 12), the list place (13 to 15), the least length (16), else 0
abbrev pub refusal_place : Refusal → ℕ
refusal_place (Short at) = at
refusal_place (BadLength at) = at
refusal_place (KindNotDue at) = at
refusal_place (BodyLength at) = at
refusal_place (OutOfRange at) = at
refusal_place (AccountTwice at) = at
refusal_place (SumsDiffer at) = at
refusal_place NoInstance = 0
refusal_place (NotNumberDue due) = due
refusal_place (RankNotAbove last) = last
refusal_place (EntryBack entry) = entry
refusal_place (EntryAhead entry) = entry
refusal_place (NoTransaction k) = k
refusal_place (NoPart k) = k
refusal_place (CitedBefore k) = k
refusal_place (BufferShort least) = least
refusal_place LogFull = 0

-- what a check of values or bytes says: that they are fine, or the refusal
abbrev pub Checked : Type 0
Checked = Result Unit Refusal
