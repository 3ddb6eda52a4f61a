-- Contracts, run in log order (document 01, "Settlement in a view").
-- Assumes nothing.
use Rattle.std.specs.Prelude.{◌+◌, ℕ, eqb, replicate}
use mathlib.Core.List.{List, foldl}
use Rattle.settlement.specs.View.{Event}
use Rattle.sheets.specs.Operations.{operated}
use Rattle.sheets.specs.Parts.{is_contract, parts}
use Rattle.sheets.specs.Sheet.{Sheet}
use Rattle.sums.specs.Test.{both, flip, pick, put}

-- paid, returned, and document 01's open, which is `pending` here (`open` is a keyword)
pub data Status : Type 0 where
  pending : Status
  paid : Status
  returned : Status

-- the registers, and of each contract the citations met so far, those of them that failed, and its status
pub record Book : Type 0 where
  pub registers : List ℕ
  pub seen : ℕ → ℕ
  pub spoiled : ℕ → ℕ
  pub status : ℕ → Status

-- "32-bit registers, all 0 at first"
abbrev pub empty_book : Sheet → Book
empty_book S = record { registers = replicate S.g 0; seen = λ x. 0; spoiled = λ x. 0; status = λ x. pending }

-- one more citation is met
unfoldable pub counted : Book → Event → Book
counted s e = record {
  registers = s.registers;
  seen = put s.seen e.tx (s.seen e.tx + 1);
  spoiled = put s.spoiled e.tx (s.spoiled e.tx + flip e.good);
  status = s.status;
}

-- contract x runs: "paid if all parts are good and all operations pass, else returned with all registers unchanged"
unfoldable pub settled : Sheet → Book → ℕ → Book
settled S s x = pick (both (eqb (s.spoiled x) 0) (operated S x s.registers).passes)
    (record { registers = (operated S x s.registers).registers; seen = s.seen; spoiled = s.spoiled; status = put s.status x paid })
    (record { registers = s.registers; seen = s.seen; spoiled = s.spoiled; status = put s.status x returned })

-- "it then runs at the citation that comes last there"
unfoldable pub booked : Sheet → Book → Event → Book
booked S s e = pick (eqb ((counted s e).seen e.tx) (parts S e.tx)) (settled S (counted s e) e.tx) (counted s e)

-- a citation in log order; payments are passed over
unfoldable pub step : Sheet → Book → Event → Book
step S s e = pick (is_contract S e.tx) (booked S s e) s

-- a list of citations, one after the other
unfoldable pub run_all : Sheet → Book → List Event → Book
run_all S s l = foldl (step S) s l
