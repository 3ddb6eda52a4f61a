-- The plain ledger (document 01): the answer to each offer, and the logs afterwards.
-- Assumes nothing.
use Rattle.std.specs.Prelude.{◌*◌, ◌+◌, ◌-◌, ℕ, eqb, leb, ltb, get_or, length, Bool, not, true}
use mathlib.Core.List.{List, [], ◌∷◌, foldl}
use Rattle.escrow.specs.Outcome.{History}
use Rattle.ordering.specs.Order.{last_of}
use Rattle.plain.specs.Answer.{Answer, ◌then◌, accepted, first_to, is_accepted, no_offer, refuse, refused}
use Rattle.plain.specs.Logs.{Logs, Values, appended, block_from, empty_logs, history_of}
use Rattle.plain.specs.Offers.{Offer, Parsed, block, frame, lent_of, offer_needs, offered, parse, values, wrong}
use Rattle.sums.specs.Test.{any_to, both, pick}
use Rattle.sheets.specs.Parts.{has_part}
use Rattle.sheets.specs.Sheet.{tx_count, Sheet}
use Rattle.refusals.specs.Refusals.{refusal_number, refusal_place}
use Rattle.settlement.specs.View.{no_cite}

-- ---- refusals

-- 16, least length: "Of several short buffers the first in the call counts"; needs are the least lengths, lent those of the call
unfoldable pub lent_answer : List ℕ → List ℕ → Answer
lent_answer [] lent = accepted
lent_answer (n ∷ needs) [] = refused 16 n
lent_answer (n ∷ needs) (k ∷ lent) = refuse (ltb k n) 16 n then lent_answer needs lent

-- some entry of a cut from m on is not 0
unfoldable pub unused_set : ℕ → List ℕ → Bool
unused_set m cut = any_to 16 (λ e. both (leb m e) (not (eqb (get_or cut e 0) 0)))

-- values with this cut and so many citations, on a sheet of m instances: "5 with place 0 if its count is above 32 or an unused cut entry is not 0"
unfoldable pub values_answer : ℕ → List ℕ → ℕ → Answer
values_answer m cut count = refuse (ltb 32 count) 5 0 then refuse (unused_set m cut) 5 0

abbrev pub parsed_answer : Parsed → Answer
parsed_answer (block b) = accepted
parsed_answer (wrong r) = refused (refusal_number r) (refusal_place r)

-- between 16 and 8: for values 5 with place 0, for a frame the refusals 1 to 5 at its offset
unfoldable pub front_answer : Sheet → Offer → Answer
front_answer S (values lent b) = values_answer S.m b.cut (length b.cites)
front_answer S (frame lent bytes at) = parsed_answer (parse S bytes at)

-- "the instance's last rank (0 if none)"
unfoldable pub last_rank : History → ℕ → ℕ
last_rank H i = last_of (H.rank i) (H.height i)

-- entry e of the instance's block before, 0 if none
unfoldable pub last_entry : History → ℕ → ℕ → ℕ
last_entry H i e = last_of (λ n. H.entry i n e) (H.height i)

-- 11: "own entry is not sequence number − 1, or an entry is below that of the instance's block before"
unfoldable pub entry_off : History → Values → ℕ → Bool
entry_off H b e =
    pick (both (eqb e b.instance) (not (eqb (get_or b.cut e 0) (b.number - 1)))) true
    (ltb (get_or b.cut e 0) (last_entry H b.instance e))

-- 15: "already cited by this instance, earlier places of this block included"
unfoldable pub cited_before : History → Values → ℕ → ℕ → Bool
cited_before H b q x =
    pick (any_to (H.height b.instance * 32) (λ p. eqb (H.cell b.instance p) x)) true
    (any_to q (λ q'. eqb (get_or b.cites q' no_cite) x))

-- 13, 14, 15 at list place q
unfoldable pub cite_answer : Sheet → History → Values → ℕ → Answer
cite_answer S H b q =
    refuse (leb (tx_count S) (get_or b.cites q no_cite)) 13 q
    then refuse (not (has_part S (get_or b.cites q no_cite) b.instance)) 14 q
    then refuse (cited_before H b q (get_or b.cites q no_cite)) 15 q

-- "for a block 8, 17, 9, 10, 11 over all entries, 12 over all entries, then 13, 14, 15 at each citation in turn"
unfoldable pub block_answer : Sheet → History → Values → Answer
block_answer S H b =
    refuse (leb S.m b.instance) 8 0
    then refuse (leb 128 (H.height b.instance)) 17 0
    then refuse (not (eqb b.number (H.height b.instance + 1))) 9 (H.height b.instance + 1)
    then refuse (leb b.rank (last_rank H b.instance)) 10 (last_rank H b.instance)
    then first_to S.m (λ e. refuse (entry_off H b e) 11 e)
    then first_to S.m (λ e. refuse (ltb (H.height e) (get_or b.cut e 0)) 12 e)
    then first_to (length b.cites) (cite_answer S H b)

-- a frame where no byte is left is no offer
unfoldable pub idle_answer : Offer → Answer
idle_answer (values lent b) = accepted
idle_answer (frame lent bytes at) = pick (leb (length bytes) at) no_offer accepted

-- "Order: 16; then for a slip 1 .. 7; for a block 8, 17, 9, .."
unfoldable pub answer : Sheet → History → Offer → Answer
answer S H o =
    idle_answer o
    then lent_answer (offer_needs S) (lent_of o)
    then front_answer S o
    then block_answer S H (offered S o)

-- ---- the logs afterwards

-- "Any other changes no log"
unfoldable pub next : Sheet → Logs → Offer → Logs
next S L o = pick (is_accepted (answer S (history_of L) o)) (appended L (offered S o).instance (block_from (offered S o))) L

-- a list of offers from given logs: the answers, and the logs at the end
unfoldable pub answers_from : Sheet → Logs → List Offer → List Answer
answers_from S L [] = []
answers_from S L (o ∷ l) = answer S (history_of L) o ∷ answers_from S (next S L o) l

-- the plain ledger, fed a list of offers
unfoldable pub answers : Sheet → List Offer → List Answer
answers S l = answers_from S (empty_logs S) l

unfoldable pub ledger : Sheet → List Offer → Logs
ledger S l = foldl (next S) (empty_logs S) l
