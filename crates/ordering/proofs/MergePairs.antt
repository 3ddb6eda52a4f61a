-- The merge as the code has it: over pairs, where the laws of Merge are over their numbers.
-- Assumes nothing.
use Prim.Native.Nat.{◌%◌, ◌*◌, ◌+◌, ◌-◌, ◌/◌, ◌<◌, ◌≤◌, min, ℕ}
use borrow.Author.Tests.{ltb-false, ltb-true}
use lib.Dec.{ltb}
use lib.ListN.{length, length-set, set}
use lib.Seq.{get_or-set_other, get_or-set_same}
use mathlib.Core.Bool.{Bool, false, true}
use mathlib.Core.List.{List, map}
use mathlib.Core.Path.{◌∙◌, ◌≡◌, ap, refl, sym}
use native.Mathlib.Decide.{dec_lt, ℕ_discrete}
use native.Mathlib.Omega.{arith}
use Rattle.ordering.specs.declared.pair.Pair.{Pair}
use Rattle.ordering.specs.Order.{global_log}
use Rattle.ordering.specs.Inner.{group_first, next_pair, pair_in}
use Rattle.ordering.specs.Pairs.{bar_pair, compared, first_from, is_first, number_of, pair_of}
use Rattle.ordering.specs.Table.{Ordered, block_id, count_in}
use Rattle.ordering.proofs.Cases.{bar-number, bar_small, first_below, first_self, firsts_all, firsts_cong, firsts_number, next-number, of_next}
use Rattle.ordering.proofs.Laws.{next-none, next_of}
use Rattle.ordering.proofs.Merge.{Merging, cursor-below, merging_end, merging-later, merging_start, merging-turn}
use Rattle.sums.proofs.LeastLaws.{le_least, least_le, least_le_start}
use Rattle.sums.proofs.SeqLaws.{get_d_tabulate, length-tabulate, tabulate_is}
use Rattle.sums.specs.Least.{least_from}
use Rattle.sums.specs.Seq.{fill, tabulate}
use Rattle.sums.specs.Test.{pick}

-- a turn of the merge, with the key's instance under a name
module _ (m : ℕ) (R : ℕ → ℕ → ℕ) (F : ℕ → ℕ) (ord : Ordered m R F) (small : (i : ℕ) → 0 < F i → i < 16) (stop : ℕ) (first cursors out : List ℕ) (count k : ℕ)
    (inv : Merging m R F stop first cursors out count k) (hk : k < stop) (i n : ℕ) (ei : i ≡ k % 16) (en : n ≡ count_in cursors i) where
  here : n ≡ count_in cursors (k % 16)
  here = en ∙ ap (count_in cursors) ei

  cursor_at : n < 128
  cursor_at = omega (arith, here, cursor-below m R F ord small stop first cursors out count k inv hk)

  later_at : k + 1 ≤ least_from stop (next_of R F stop (count_in (set cursors i (n + 1)))) m
  later_at = rw ei (merging-later m R F ord small stop first cursors out count k inv hk n here)

  turn_at : (k' : ℕ) (out' : List ℕ) → k' ≡ least_from stop (next_of R F stop (count_in (set cursors i (n + 1)))) m → out' ≡ set out count (i * 128 + n)
      → Merging m R F stop first (set cursors i (n + 1)) out' (count + 1) k'
  turn_at = rw ei (merging-turn m R F ord small stop first cursors out count k inv hk n here)

-- k is the pair of a block, or the bar
abbrev OwnOr : Pair → Pair → Type 0
OwnOr stop k = 16 ≤ k.instance → k ≡ stop

-- the first pair of each of the four groups
abbrev Groups : ℕ → (ℕ → ℕ → ℕ) → (ℕ → ℕ) → Pair → (ℕ → ℕ) → List Pair → Type 0
Groups m R F stop C firsts = firsts ≡ tabulate 4 (group_first stop (next_pair R F stop C) m)

pub record MergingPairs (m : ℕ) (R : ℕ → ℕ → ℕ) (F : ℕ → ℕ) (stop : Pair) (first cursors out : List ℕ) (firsts : List Pair) (count : ℕ) (k : Pair) : Type 0 where
  pub is_bar : stop ≡ bar_pair m R F
  pub groups : Groups m R F stop (count_in cursors) firsts
  pub own : OwnOr stop k
  pub numbers : Merging m R F (number_of stop) first cursors out count (number_of k)

-- ---- behind a block only the first of its own group is another

module _ (m : ℕ) (R : ℕ → ℕ → ℕ) (F : ℕ → ℕ) (stop : Pair) (C D : ℕ → ℕ) (i : ℕ) (other : (j : ℕ) → (j ≡ i → ⊥) → D j ≡ C j) where
  other_group : (g : ℕ) → (g ≡ i / 4 → ⊥) → group_first stop (next_pair R F stop C) m g ≡ group_first stop (next_pair R F stop D) m g
  other_group g h =
      firsts_cong stop (λ a. next_pair R F stop C (g * 4 + a)) (λ a. next_pair R F stop D (g * 4 + a)) (min 4 (m - g * 4))
      (λ a l. ap (λ (n : ℕ). pick (ltb n (F (g * 4 + a))) (pair_of (R (g * 4 + a) n) (g * 4 + a)) stop)
      (sym (other (g * 4 + a) (λ e. h (omega arith)))))

  groups_turn : i < 16 → (firsts : List Pair) → Groups m R F stop C firsts → (r : Pair) → r ≡ group_first stop (next_pair R F stop D) m (i / 4)
      → Groups m R F stop D (set firsts (i / 4) r)
  groups_turn s firsts e r er =
      let four : length firsts ≡ 4 = ap length e ∙ length-tabulate 4 (group_first stop (next_pair R F stop C) m) in
      sym (tabulate_is (set firsts (i / 4) r) 4 (group_first stop (next_pair R F stop D) m) (pair_of 0 0) (length-set firsts (i / 4) r ∙ four) (λ g l.
      elim (ℕ_discrete g (i / 4)) [
        | yes h ↦ ap (group_first stop (next_pair R F stop D) m) h ∙ sym er ∙ sym (get_or-set_same firsts (i / 4) r (pair_of 0 0) (omega arith))
            ∙ ap (pair_in (set firsts (i / 4) r)) (sym h)
        | no h ↦
            sym (other_group g h) ∙ sym (get_d_tabulate 4 (group_first stop (next_pair R F stop C) m) g (pair_of 0 0) l) ∙ ap (λ (row : List Pair). pair_in row g) (sym e)
            ∙ sym (get_or-set_other firsts (i / 4) g r (pair_of 0 0) h)
      ]))

module _ (m : ℕ) (R : ℕ → ℕ → ℕ) (F : ℕ → ℕ) (ord : Ordered m R F) (small : (i : ℕ) → 0 < F i → i < 16) (stop : Pair) (es : stop ≡ bar_pair m R F) where
  none : (j : ℕ) → 16 ≤ j → F j ≡ 0
  none j h = elim (dec_lt 0 (F j)) [ yes l ↦ absurd (omega (arith, small j l)) | no l ↦ omega arith ]

  pub stop_small : stop.instance ≤ 16
  stop_small = omega (arith, ap (λ (p : Pair). p.instance) es, bar_small R F none m)

  -- ---- the first of the groups' pairs is the first of all
  module _ (C : ℕ → ℕ) (firsts : List Pair) (ef : Groups m R F stop C firsts) where
    abbrev row : ℕ → Pair
    row = next_pair R F stop C

    abbrev keys : ℕ → ℕ
    keys = next_of R F (number_of stop) C

    -- what holds of the blocks' pairs and of the bar holds of each group's
    of-group : (P : Pair → Type 0) → ((j : ℕ) → C j < F j → P (pair_of (R j (C j)) j)) → P stop → (g : ℕ) → g < 4 → P (pair_in firsts g)
    of-group P some bar g l =
        rw (ef, get_d_tabulate 4 (group_first stop row m) g (pair_of 0 0) l)
        (firsts_all P stop (λ a. row (g * 4 + a)) (min 4 (m - g * 4)) bar (λ a u. of_next R F stop C (g * 4 + a) P (some (g * 4 + a)) (λ h. bar)))

    row_small : (j : ℕ) → (row j).instance ≤ 16
    row_small j = of_next R F stop C j (λ p. p.instance ≤ 16) (λ h. omega (arith, small j (omega arith))) (λ h. stop_small)

    group-number : (g : ℕ) → g < 4 → number_of (pair_in firsts g) ≡ least_from (number_of stop) (λ a. number_of (row (g * 4 + a))) (min 4 (m - g * 4))
    group-number g l =
        rw (ef, get_d_tabulate 4 (group_first stop row m) g (pair_of 0 0) l)
        (firsts_number stop (λ a. row (g * 4 + a)) (min 4 (m - g * 4)) stop_small (λ a u. row_small (g * 4 + a)))

    groups-low : (j : ℕ) → j < m → least_from (number_of stop) (λ g. number_of (pair_in firsts g)) 4 ≤ keys j
    groups-low j l = elim (dec_lt j 16) [
      | yes h ↦
          let a = least_le (number_of stop) (λ g. number_of (pair_in firsts g)) 4 (j / 4) (omega arith) in
          let b = least_le (number_of stop) (λ a. number_of (row (j / 4 * 4 + a))) (min 4 (m - j / 4 * 4)) (j % 4) (omega arith) in
          let e : j / 4 * 4 + j % 4 ≡ j = omega arith in
          omega (arith, a, b, group-number (j / 4) (omega arith), ap (λ (i : ℕ). number_of (row i)) e, next-number R F stop C j)
      | no h ↦
          omega (
            arith,
            least_le_start (number_of stop) (λ g. number_of (pair_in firsts g)) 4,
            next-none R F (number_of stop) C j (C j) (F j) refl refl (omega (arith, none j (omega arith))),
          )
    ]

    group-low : (g : ℕ) → g < 4 → least_from (number_of stop) keys m ≤ number_of (pair_in firsts g)
    group-low g l =
        omega (
          arith,
          group-number g l,
          le_least (number_of stop) (λ a. number_of (row (g * 4 + a))) (min 4 (m - g * 4)) (least_from (number_of stop) keys m) (least_le_start (number_of stop) keys m) (λ a u.
              omega (arith, next-number R F stop C (g * 4 + a), least_le (number_of stop) keys m (g * 4 + a) (omega arith))),
        )

    module _ (k : Pair) (ek : k ≡ first_from stop (pair_in firsts) 4) where
      next-least : number_of k ≡ least_from (number_of stop) keys m
      next-least =
          let e = ap number_of ek ∙ firsts_number stop (pair_in firsts) 4 stop_small
          (of-group (λ p. p.instance ≤ 16) (λ j h. omega (arith, small j (omega arith))) stop_small) in
          let a = le_least (number_of stop) keys m (least_from (number_of stop) (λ g. number_of (pair_in firsts g)) 4)
          (least_le_start (number_of stop) (λ g. number_of (pair_in firsts g)) 4) groups-low in
          let b = le_least (number_of stop) (λ g. number_of (pair_in firsts g)) 4 (least_from (number_of stop) keys m) (least_le_start (number_of stop) keys m) group-low in
          omega (arith, e, a, b)

      next-own : OwnOr stop k
      next-own = rw ek (firsts_all (OwnOr stop) stop (pair_in firsts) 4 (λ h. refl) (of-group (OwnOr stop) (λ j h i. absurd (omega (arith, small j (omega arith)))) (λ h. refl)))

  -- the loop's test is that of the numbers
  test_number : (k : Pair) → OwnOr stop k → is_first (compared k stop) ≡ ltb (number_of k) (number_of stop)
  test_number k own = elim (dec_lt k.instance 16) [
    | yes h ↦ first_below k stop h stop_small
    | no h ↦ let e = own (omega arith) in rw e (first_self stop)
  ]

  module _ (first : List ℕ) where
    pub pairs_start : (cursors : List ℕ) (firsts : List Pair) (k : Pair) → length cursors ≡ 16 → ((j : ℕ) → count_in cursors j ≡ 0)
        → Groups m R F stop (count_in cursors) firsts → k ≡ first_from stop (pair_in firsts) 4 → MergingPairs m R F stop first cursors first firsts 0 k
    pairs_start cursors firsts k s z ef ek = record {
      is_bar = es;
      groups = ef;
      own = next-own (count_in cursors) firsts ef k ek;
      numbers = merging_start m R F ord small (number_of stop) first cursors (number_of k) s z (next-least (count_in cursors) firsts ef k ek);
    }

    module _ (cursors out : List ℕ) (firsts : List Pair) (count : ℕ) (k : Pair) (inv : MergingPairs m R F stop first cursors out firsts count k)
        (t : is_first (compared k stop) ≡ true) where
      pub pair-below : number_of k < number_of stop
      pair-below = ltb-true (number_of k) (number_of stop) (sym (test_number k inv.own) ∙ t)

      -- a pair that comes before the bar is a block's
      pub pair-own : k.instance < 16
      pair-own = elim (dec_lt k.instance 16) [ yes h ↦ h | no h ↦ absurd (omega (arith, pair-below, ap number_of (inv.own (omega arith)))) ]

      at : k.instance ≡ number_of k % 16
      at = omega (arith, pair-own)

      module _ (n : ℕ) (en : n ≡ count_in cursors k.instance) where
        pub pair-cursor : n < 128
        pair-cursor = cursor_at m R F ord small (number_of stop) first cursors out count (number_of k) inv.numbers pair-below k.instance n at en

        abbrev after : List ℕ
        after = set cursors k.instance (n + 1)

        module _ (r : Pair) (er : r ≡ group_first stop (next_pair R F stop (count_in after)) m (k.instance / 4)) (k' : Pair)
            (ek : k' ≡ first_from stop (pair_in (set firsts (k.instance / 4) r)) 4) where
          groups' : Groups m R F stop (count_in after) (set firsts (k.instance / 4) r)
          groups' =
              groups_turn m R F stop (count_in cursors) (count_in after) k.instance (λ j h. get_or-set_other cursors k.instance j (n + 1) 0 h) pair-own firsts
              inv.groups r er

          least' : number_of k' ≡ least_from (number_of stop) (next_of R F (number_of stop) (count_in after)) m
          least' = next-least (count_in after) (set firsts (k.instance / 4) r) groups' k' ek

          pub pair-later : number_of k < number_of k'
          pair-later =
              omega (arith, least', later_at m R F ord small (number_of stop) first cursors out count (number_of k) inv.numbers pair-below k.instance n at en)

          pub pair_turn : (out' : List ℕ) → out' ≡ set out count (k.instance * 128 + n)
              → MergingPairs m R F stop first after out' (set firsts (k.instance / 4) r) (count + 1) k'
          pair_turn out' eo = record {
            is_bar = es;
            groups = groups';
            own = next-own (count_in after) (set firsts (k.instance / 4) r) groups' k' ek;
            numbers = turn_at m R F ord small (number_of stop) first cursors out count (number_of k) inv.numbers pair-below k.instance n at en (number_of k') out' least' eo;
          }

    pub pairs_end : (cursors out : List ℕ) (firsts : List Pair) (count : ℕ) (k : Pair) → MergingPairs m R F stop first cursors out firsts count k
        → is_first (compared k stop) ≡ false → (count ≡ length (global_log m R F)) × (out ≡ fill (map block_id (global_log m R F)) first)
    pairs_end cursors out firsts count k inv t =
        merging_end m R F (number_of stop) first cursors out count (number_of k) inv.numbers (ap number_of es ∙ bar-number R F none m)
        (ltb-false (number_of k) (number_of stop) (sym (test_number k inv.own) ∙ t))

-- a block's pair, where the merge goes on
pub own_pair : {m : ℕ} {R : ℕ → ℕ → ℕ} {F : ℕ → ℕ} {stop k : Pair} {first cursors out : List ℕ} {firsts : List Pair} {count : ℕ} {b : Bool}
    → Ordered m R F → ((i : ℕ) → 0 < F i → i < 16) → MergingPairs m R F stop first cursors out firsts count k → b ≡ is_first (compared k stop) → b ≡ true → k.instance < 16
own_pair {m} {R} {F} ord small inv e t = pair-own m R F ord small _ inv.is_bar _ _ _ _ _ _ inv (sym e ∙ t)
