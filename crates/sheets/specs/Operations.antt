-- Operations on the registers (document 01, "Operations").
-- Assumes nothing.
use Rattle.std.specs.Prelude.{◌+◌, ◌-◌, suc, zero, ℕ, eqb, leb, get_or, length, set, take, Bool, false, true, List, ◌≡◌}
use Rattle.transactions.specs.Content.{Operation, no_operation}
use Rattle.sheets.specs.Sheet.{Sheet, tx_at}
use Rattle.sums.specs.Test.{both, pick}
use Rattle.sheets.specs.declared.operations.Ran.{Ran}

-- whether all passed, and the registers
pub record Done : Type 0 where
  pub passes : Bool
  pub registers : List ℕ

abbrev pub tested : Bool → List ℕ → Done
tested b r = record { passes = b; registers = r }

abbrev pub assigned : List ℕ → ℕ → ℕ → Done
assigned r i n = record { passes = true; registers = set r i n }

-- "0 passes if equal to the value, 1 passes if at least the value, 2 sets, 3 adds, 4 subtracts"; "a sum above 2^32 − 1 or a difference below 0 does not pass".
-- No sheet has another code; an operation with one does not pass
unfoldable pub operate : Operation → List ℕ → Done
operate op r =
    let n : ℕ = get_or r op.register 0 in
    pick (eqb op.code 0) (tested (eqb n op.value) r)
    (pick (eqb op.code 1) (tested (leb op.value n) r)
    (pick (eqb op.code 2) (assigned r op.register op.value)
    (pick (eqb op.code 3) (pick (leb (n + op.value) 4294967295) (assigned r op.register (n + op.value)) (tested false r))
    (pick (both (eqb op.code 4) (leb op.value n)) (assigned r op.register (n - op.value)) (tested false r)))))

-- the first k operations, "each seeing the earlier ones"; none after one that does not pass
unfoldable pub operate_to : List Operation → ℕ → List ℕ → Done
operate_to ops zero r = tested true r
operate_to ops (suc k) r =
    pick (operate_to ops k r).passes (operate (get_or ops k no_operation) (operate_to ops k r).registers) (operate_to ops k r)

-- all operations of transaction x
unfoldable pub operated : Sheet → ℕ → List ℕ → Done
operated S x r = operate_to (tx_at S x).operations (length (tx_at S x).operations) r

-- what a run of operations leaves: whether all passed, and in the first g of 64 cells the registers as they then are; the other cells mean nothing
pub record Leaves (g : ℕ) (r : Ran) (d : Done) : Type 0 where
  pub passes : r.passes ≡ d.passes
  pub registers : take g r.registers ≡ d.registers
