use lib.ListN.{length, replicate}
use mathlib.Core.List.{map}
use mathlib.Core.Path.{◌∙◌, ap, refl, sym}
use native.Mathlib.Omega.{arith}
use Rattle.ordering.proofs.Merge.{sixteen, zeros}
use Rattle.ordering.proofs.MergePairs.{pair-below, pair-cursor, own_pair, pair-later, pair_turn, pairs_end, pairs_start, stop_small}
use Rattle.ordering.specs.Order.{log_to}
use Rattle.ordering.specs.Pairs.{number_of}
use Rattle.ordering.specs.Table.{block_id, count_in, rank_in}
use Rattle.sums.proofs.SeqLaws.{length-fill}
use Rattle.ordering.proofs.global_log.Goals as goal

pub loop-full-init : goal.loop-full-init
loop-full-init c =
    pairs_start c.args.m (rank_in c.args.ranks.now) (count_in c.args.full) c.requires (sixteen c.args.full c.well_formed.1.1.0.1.0.1) _ c.bar-stop.ensures.0 _ (replicate 16 0) _ _ refl (zeros 16)
    c.group_firsts-firsts.ensures c.next_pair-k.ensures

pub overflow_mul-i : goal.overflow_mul-i
overflow_mul-i c = omega (arith, own_pair c.requires (sixteen c.args.full c.well_formed.1.1.0.1.0.1) c.loop-full.invariant c.comes_first.ensures c.loop-full-test.true)

pub overflow_add-i : goal.overflow_add-i
overflow_add-i c =
    omega (
      arith,
      own_pair c.requires (sixteen c.args.full c.well_formed.1.1.0.1.0.1) c.loop-full.invariant c.comes_first.ensures c.loop-full-test.true,
      pair-cursor c.args.m (rank_in c.args.ranks.now) (count_in c.args.full) c.requires (sixteen c.args.full c.well_formed.1.1.0.1.0.1) _ c.loop-full.invariant.is_bar
          _ _ _ _ _ _ c.loop-full.invariant (sym c.comes_first.ensures ∙ c.loop-full-test.true) _ c.count_in-n.ensures,
    )

pub overflow_add-cursors : goal.overflow_add-cursors
overflow_add-cursors c =
    omega (
      arith,
      pair-cursor c.args.m (rank_in c.args.ranks.now) (count_in c.args.full) c.requires (sixteen c.args.full c.well_formed.1.1.0.1.0.1) _ c.loop-full.invariant.is_bar
          _ _ _ _ _ _ c.loop-full.invariant (sym c.comes_first.ensures ∙ c.loop-full-test.true) _ c.count_in-n.ensures,
    )

pub bounds-cursors-at : goal.bounds-cursors-at
bounds-cursors-at c = omega (arith, own_pair c.requires (sixteen c.args.full c.well_formed.1.1.0.1.0.1) c.loop-full.invariant c.comes_first.ensures c.loop-full-test.true)

pub overflow_add-count : goal.overflow_add-count
overflow_add-count c =
    omega (
      arith,
      pair-below c.args.m (rank_in c.args.ranks.now) (count_in c.args.full) c.requires (sixteen c.args.full c.well_formed.1.1.0.1.0.1) _ c.loop-full.invariant.is_bar
          _ _ _ _ _ _ c.loop-full.invariant (sym c.comes_first.ensures ∙ c.loop-full-test.true),
      c.loop-full.invariant.numbers.few,
      c.bar-stop.ensures.1,
      stop_small c.args.m (rank_in c.args.ranks.now) (count_in c.args.full) c.requires (sixteen c.args.full c.well_formed.1.1.0.1.0.1) _ c.loop-full.invariant.is_bar,
    )

pub loop-full-smaller : goal.loop-full-smaller
loop-full-smaller c =
    omega (
      arith,
      pair-below c.args.m (rank_in c.args.ranks.now) (count_in c.args.full) c.requires (sixteen c.args.full c.well_formed.1.1.0.1.0.1) _ c.loop-full.invariant.is_bar
          _ _ _ _ _ _ c.loop-full.invariant (sym c.comes_first.ensures ∙ c.loop-full-test.true),
      pair-later c.args.m (rank_in c.args.ranks.now) (count_in c.args.full) c.requires (sixteen c.args.full c.well_formed.1.1.0.1.0.1) _ c.loop-full.invariant.is_bar
          _ _ _ _ _ _ c.loop-full.invariant (sym c.comes_first.ensures ∙ c.loop-full-test.true) _
          c.count_in-n.ensures _ c.first_in_group.ensures _ c.next_pair-k-in-loop-full.ensures,
    )

pub loop-full-preserved : goal.loop-full-preserved
loop-full-preserved c =
    pair_turn c.args.m (rank_in c.args.ranks.now) (count_in c.args.full) c.requires (sixteen c.args.full c.well_formed.1.1.0.1.0.1) _ c.loop-full.invariant.is_bar
    _ _ _ _ _ _ c.loop-full.invariant (sym c.comes_first.ensures ∙ c.loop-full-test.true) _
    c.count_in-n.ensures _ c.first_in_group.ensures _ c.next_pair-k-in-loop-full.ensures _ c.put.ensures

pub shape_of-out : goal.shape_of-out
shape_of-out c =
    ap length c.loop-full.invariant.numbers.written
    ∙ length-fill (map block_id (log_to c.args.m (rank_in c.args.ranks.now) (count_in c.args.full) (number_of c.loop-full.k))) c.args.out.now

pub returns : goal.returns
returns c =
    pairs_end c.args.m (rank_in c.args.ranks.now) (count_in c.args.full) c.requires (sixteen c.args.full c.well_formed.1.1.0.1.0.1) _ c.loop-full.invariant.is_bar
    _ _ _ _ _ _ c.loop-full.invariant
    (sym c.comes_first.ensures ∙ c.loop-full-test.false)

pub overflow_cast-i : goal.overflow_cast-i
overflow_cast-i c = omega (arith, own_pair c.requires (sixteen c.args.full c.well_formed.1.1.0.1.0.1) c.loop-full.invariant c.comes_first.ensures c.loop-full-test.true)

pub overflow_cast-at : goal.overflow_cast-at
overflow_cast-at c = omega (arith, own_pair c.requires (sixteen c.args.full c.well_formed.1.1.0.1.0.1) c.loop-full.invariant c.comes_first.ensures c.loop-full-test.true)

pub offset_bounds-cursors-at : goal.offset_bounds-cursors-at
offset_bounds-cursors-at c = omega (arith, own_pair c.requires (sixteen c.args.full c.well_formed.1.1.0.1.0.1) c.loop-full.invariant c.comes_first.ensures c.loop-full-test.true)

pub first_in_group-requires : goal.first_in_group-requires
first_in_group-requires c = omega (arith, own_pair c.requires (sixteen c.args.full c.well_formed.1.1.0.1.0.1) c.loop-full.invariant c.comes_first.ensures c.loop-full-test.true)

pub overflow_cast-firsts : goal.overflow_cast-firsts
overflow_cast-firsts c = omega (arith, own_pair c.requires (sixteen c.args.full c.well_formed.1.1.0.1.0.1) c.loop-full.invariant c.comes_first.ensures c.loop-full-test.true)

pub offset_bounds-firsts-g : goal.offset_bounds-firsts-g
offset_bounds-firsts-g c = omega (arith, own_pair c.requires (sixteen c.args.full c.well_formed.1.1.0.1.0.1) c.loop-full.invariant c.comes_first.ensures c.loop-full-test.true)

pub bounds-firsts-g : goal.bounds-firsts-g
bounds-firsts-g c = omega (arith, own_pair c.requires (sixteen c.args.full c.well_formed.1.1.0.1.0.1) c.loop-full.invariant c.comes_first.ensures c.loop-full-test.true)
