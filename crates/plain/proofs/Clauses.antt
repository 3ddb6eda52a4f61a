-- What each clause of the promise for a reading gives the caller. One law a clause: whoever loses a clause breaks its law.
-- Assumes nothing.
use Prim.Native.Nat.{ℕ}
use lib.ListN.{length}
use mathlib.Core.Bool.{Bool}
use mathlib.Core.List.{List, ◌++◌, map}
use mathlib.Core.Path.{◌≡◌}
use Rattle.plain.specs.Answer.{Answer, is_accepted}
use Rattle.plain.specs.Report.{Query, Report, Tells, filled_with, lists_of, read_answer, value_of}
use Rattle.sheets.specs.Sheet.{Sheet}
use Rattle.sums.specs.Test.{pick}

module _ {complete : Bool} {S : Sheet} {r : Report} {q : Query} {work : List ℕ} {outs : List (List ℕ)} {a : Answer} {n : ℕ} {outs' : List (List ℕ)} (p : Tells complete S r q work outs a n outs') where
  pub reading-answered : a ≡ read_answer complete S r q (work ++ map length outs)
  reading-answered = p.answered

  -- a refused call returns 0
  pub reading-value : n ≡ pick (is_accepted a) (value_of q r) 0
  reading-value = p.value

  -- and leaves the lists as they were
  pub reading-lists : outs' ≡ pick (is_accepted a) (filled_with (lists_of q r) outs) outs
  reading-lists = p.lists
