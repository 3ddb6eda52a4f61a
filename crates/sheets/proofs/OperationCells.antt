-- Operations on the registers: the 64 cells of which the first g are the sheet's.
-- Assumes nothing.
use Prim.Native.Nat.{◌+◌, ◌-◌, ◌<◌, ◌≤◌, suc, zero, ℕ}
use borrow.Author.Tests.{le-leb, lt-leb, ne_eqb}
use lib.Dec.{eqb, leb}
use lib.ListN.{drop, get_or, length, length-take, set, take}
use lib.Seq.{set_out, take-set-le, take-set-lt}
use Rattle.std.specs.Bool.{then_some}
use Rattle.std.specs.Option.{SomeIff}
use Rattle.std.specs.Prelude.{Option, None, Some, ◌^◌}
use Rattle.std.proofs.lemmas.List.{set-get_or}
use mathlib.Core.Bool.{Bool, false, true}
use mathlib.Core.List.{List}
use mathlib.Core.Path.{◌∙◌, ◌≡◌, ap, ap₂, refl, subst, sym}
use native.Mathlib.Decide.{dec_lt}
use native.Mathlib.Nat.{suc-add, zero-add}
use native.Mathlib.Numerals.{add-one}
use native.Mathlib.Omega.{arith}
use Rattle.transactions.specs.Content.{Operation, Transaction, no_operation}
use Rattle.transactions.specs.Body.{operation_in, operations_from, transaction_of}
use Rattle.sheets.proofs.SheetCells.{tx-from, tx-past}
use Rattle.sheets.specs.Inner.{left_in}
use Rattle.sheets.specs.Operations.{Leaves, Done, assigned, operate, operate_to, operated, tested}
use Rattle.sheets.specs.Sheet.{sheet_in, slot, tx_at}
use Rattle.sums.proofs.SeqLaws.{get_d_tabulate, length-tabulate}
use Rattle.sums.proofs.TestLaws.{pick-false, pick_true}
use Rattle.sums.specs.Seq.{tabulate}
use Rattle.sums.specs.Test.{pick}
use Rattle.sheets.specs.declared.operations.Ran.{Ran}
use Rattle.sheets.specs.declared.sheet.Sizes.{Sizes}

-- a store in the cells, as one in the first g of them
pub take_of_set : (g : ℕ) (cells : List ℕ) (i v : ℕ) → take g (set cells i v) ≡ set (take g cells) i v
take_of_set g cells i v = elim (dec_lt i g) [
  | yes l ↦ take-set-lt g cells i v l
  | no l ↦ take-set-le g cells i v (omega arith) ∙ sym (set_out (take g cells) i v (omega (arith, length-take g cells)))
]

-- one operation, by its code
module _ (op : Operation) (r : List ℕ) where
  abbrev held : ℕ
  held = get_or r op.register 0

  -- what is tested passes with the register as it was
  tested_left : (b : Bool) → tested b r ≡ left_in r op.register (then_some b held)
  tested_left true = ap (tested true) (sym (set-get_or r op.register 0))
  tested_left false = refl

  pub operate_equals : op.code ≡ 0 → operate op r ≡ left_in r op.register (then_some (eqb held op.value) held)
  unfolding operate pick
  operate_equals e = rw e (tested_left (eqb held op.value))

  pub operate_least : op.code ≡ 1 → operate op r ≡ left_in r op.register (then_some (leb op.value held) held)
  unfolding operate pick
  operate_least e = rw e (tested_left (leb op.value held))

  pub operate_set : op.code ≡ 2 → operate op r ≡ left_in r op.register (Some op.value)
  unfolding operate pick
  operate_set e = rw e refl

  module _ (w v : ℕ) (ew : op.value ≡ w) (ev : held ≡ v) where
    pub operate_add : op.code ≡ 3 → (left : Option ℕ) → SomeIff left (v + w < 2 ^ 32) (v + w) → operate op r ≡ left_in r op.register left
    unfolding operate pick
    operate_add e None h = rw (e, lt-leb (held + op.value) 4294967295 (omega (arith, h))) refl
    operate_add e (Some n) h = rw (e, le-leb (held + op.value) 4294967295 (omega (arith, h.0))) (ap (assigned r op.register) (omega (arith, h.1)))

    pub operate_subtract : op.code ≡ 4 → (left : Option ℕ) → SomeIff left (w ≤ v) (v - w) → operate op r ≡ left_in r op.register left
    unfolding operate pick
    operate_subtract e None h = rw (e, lt-leb op.value held (omega (arith, h))) refl
    operate_subtract e (Some n) h = rw (e, le-leb op.value held (omega (arith, h.0))) (ap (assigned r op.register) (omega (arith, h.1)))

  pub operate_none : 4 < op.code → operate op r ≡ left_in r op.register None
  unfolding operate pick
  operate_none h =
      rw (
        ne_eqb op.code 0 (λ e. omega arith),
        ne_eqb op.code 1 (λ e. omega arith),
        ne_eqb op.code 2 (λ e. omega arith),
        ne_eqb op.code 3 (λ e. omega arith),
        ne_eqb op.code 4 (λ e. omega arith),
      ) refl

pub ruleset operate_by_code = (operate_equals, operate_least, operate_set, operate_none)

-- ---- all operations: k are done, all passed, and the cells hold what they left

done_is : (d : Done) (u : Bool) (r : List ℕ) → d.passes ≡ u → d.registers ≡ r → d ≡ tested u r
done_is d u r p q = ap₂ tested p q

-- one that did not pass is the last
stuck : (ops : List Operation) (k : ℕ) (r : List ℕ) → (operate_to ops k r).passes ≡ false → (n : ℕ) → operate_to ops (n + k) r ≡ operate_to ops k r
unfolding operate_to
stuck ops k r e zero = ap (λ (i : ℕ). operate_to ops i r) (zero-add k)
stuck ops k r e (suc n) =
    let ih : operate_to ops (n + k) r ≡ operate_to ops k r = stuck ops k r e n in
    ap (λ (i : ℕ). operate_to ops i r) (suc-add n k) ∙ pick-false _ _ _ (ap (λ (d : Done). d.passes) ih ∙ e) ∙ ih

module _ (g : ℕ) (n : ℕ) (f : ℕ → Operation) (first : List ℕ) where
  abbrev pub Going : ℕ → List ℕ → Type 0
  Going k cells = operate_to (tabulate n f) k (take g first) ≡ tested true (take g cells)

  module _ (k : ℕ) (cells : List ℕ) (h : k < n) (e : Going k cells) (r : Ran) (d : Leaves g r (operate (f k) (take g cells))) where
    next : operate_to (tabulate n f) (k + 1) (take g first) ≡ operate (f k) (take g cells)
    unfolding operate_to
    next =
        ap (λ (i : ℕ). operate_to (tabulate n f) i (take g first)) (add-one k)
        ∙ pick_true _ _ _ (ap (λ (x : Done). x.passes) e)
        ∙ ap₂ operate (get_d_tabulate n f k no_operation h) (ap (λ (x : Done). x.registers) e)

    pub going_on : r.passes ≡ true → Going (k + 1) r.registers
    going_on t = next ∙ done_is (operate (f k) (take g cells)) true (take g r.registers) (sym d.passes ∙ t) (sym d.registers)

    pub going-stops : r.passes ≡ false → Leaves g r (operate_to (tabulate n f) n (take g first))
    going-stops t =
        let w : (operate_to (tabulate n f) (k + 1) (take g first)).passes ≡ false = ap (λ (x : Done). x.passes) next ∙ sym d.passes ∙ t in
        let same : operate_to (tabulate n f) n (take g first) ≡ operate_to (tabulate n f) (k + 1) (take g first) =
        ap (λ (i : ℕ). operate_to (tabulate n f) i (take g first)) {x = n} {y = n - (k + 1) + (k + 1)} (omega arith) ∙ stuck (tabulate n f) (k + 1) (take g first) w (n - (k + 1)) in
        record {
          passes = t ∙ sym (ap (λ (x : Done). x.passes) same ∙ w);
          registers = d.registers ∙ sym (ap (λ (x : Done). x.registers) (same ∙ next));
        }

  pub going_end : (k : ℕ) (cells : List ℕ) → k ≤ n → n ≤ k → Going k cells → {r : Ran} → r.passes ≡ true → r.registers ≡ cells → Leaves g r (operate_to (tabulate n f) n (take g first))
  going_end k cells l h e {r} p q =
      let w : operate_to (tabulate n f) n (take g first) ≡ tested true (take g cells) = ap (λ (i : ℕ). operate_to (tabulate n f) i (take g first)) {x = n} {y = k} (omega arith) ∙ e in
      record { passes = p ∙ sym (ap (λ (x : Done). x.passes) w); registers = ap (take g) q ∙ sym (ap (λ (x : Done). x.registers) w) }

pub run_in : (b : List ℕ) (z : Sizes) (x : ℕ) (body list : List ℕ) (n : ℕ) (cells : List ℕ) (r : Ran) → x < z.t → body ≡ slot b z x
    → list ≡ drop (operations_from body) body → n ≡ get_or body 3 0
    → Leaves z.g r (operate_to (tabulate n (operation_in list)) n (take z.g cells))
    → Leaves z.g r (operated (sheet_in b z) x (take z.g cells))
unfolding operated transaction_of
run_in b z x body list n cells r h e el en q =
    let t : tabulate n (operation_in list) ≡ (tx_at (sheet_in b z) x).operations =
    ap₂ (λ (l : List ℕ) (c : ℕ). tabulate c (operation_in l)) el en ∙ ap (λ (t : Transaction). t.operations) (tx-from b z x body e h) in
    subst (λ (ops : List Operation). Leaves z.g r (operate_to ops (length ops) (take z.g cells))) t
    (subst (λ (c : ℕ). Leaves z.g r (operate_to (tabulate n (operation_in list)) c (take z.g cells))) (sym (length-tabulate n (operation_in list))) q)

pub run_past : (b : List ℕ) (z : Sizes) (x : ℕ) (cells : List ℕ) (r : Ran) → z.t ≤ x → r.passes ≡ true → r.registers ≡ cells
    → Leaves z.g r (operated (sheet_in b z) x (take z.g cells))
unfolding operated operate_to
run_past b z x cells r h p q =
    subst (λ (t : Transaction). Leaves z.g r (operate_to t.operations (length t.operations) (take z.g cells))) (sym (tx-past b z x h))
    record { passes = p; registers = ap (take z.g) q }
