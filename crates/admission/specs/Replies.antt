-- The answer that a check returns, by document 01's number and place; and what each check looks at.
-- Assumes nothing.
use Rattle.std.specs.Prelude.{◌+◌, ◌<◌, ◌≤◌, ℕ, ltb, get_or, length, List, [], Ok, Err, Result}
use Rattle.escrow.specs.Cells.{history_in}
use Rattle.escrow.specs.Outcome.{History}
use Rattle.ordering.specs.Table.{count_in}
use Rattle.plain.specs.Answer.{Answer, ◌then◌, accepted, first_to, refuse, refused}
use Rattle.plain.specs.Logs.{Values}
use Rattle.plain.specs.Plain.{cite_answer, entry_off}
use Rattle.refusals.specs.Refusals.{refusal_number, refusal_place}
use Rattle.refusals.specs.declared.Refusal.{Refusal}
use Rattle.sheets.specs.Sheet.{Sheet}

abbrev pub reply_to : {A : Type 0} → Result A Refusal → Answer
reply_to (Ok _) = accepted
reply_to (Err r) = refused (refusal_number r) (refusal_place r)

-- ---- the part of the history that a check looks at

abbrev pub ranks_only : List ℕ → List ℕ → History
ranks_only heights ranks = history_in (count_in heights) ranks [] []

abbrev pub cuts_only : List ℕ → List ℕ → History
cuts_only heights cuts = history_in (count_in heights) [] cuts []

abbrev pub cites_only : List ℕ → List ℕ → History
cites_only heights cites = history_in (count_in heights) [] [] cites

-- the end of the block's answer: 11, 12, then 13, 14 and 15
unfoldable pub lists_answer : Sheet → History → Values → Answer
lists_answer S H b =
    first_to S.m (λ e. refuse (entry_off H b e) 11 e)
    then first_to S.m (λ e. refuse (ltb (H.height e) (get_or b.cut e 0)) 12 e)
    then first_to (length b.cites) (cite_answer S H b)

-- k of n places from a place on are in a list of this length, and only they
pub record Within (size from n k : ℕ) : Type 0 where
  pub most : k ≤ n
  pub inside : 0 < k → from + k ≤ size
  pub outside : k < n → size ≤ from + k
