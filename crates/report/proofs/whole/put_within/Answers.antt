use mathlib.Core.Path.{sym}
use lib.Seq.{length_front, length-take-le}
use Rattle.report.proofs.FrontLaws.{ample_fronts, rest_stays}
use Rattle.report.proofs.whole.put_within.Goals as goal

pub slice_bounds-put_reading-end : goal.slice_bounds-put_reading-end
slice_bounds-put_reading-end c = c.requires.sheet

pub slice_bounds-put_reading-end-2 : goal.slice_bounds-put_reading-end-2
slice_bounds-put_reading-end-2 c = sym (length-take-le 110592 c.args.sheet.now c.requires.sheet)

pub slice_bounds-put_reading-end-3 : goal.slice_bounds-put_reading-end-3
slice_bounds-put_reading-end-3 c = c.requires.ranks

pub slice_bounds-put_reading-end-4 : goal.slice_bounds-put_reading-end-4
slice_bounds-put_reading-end-4 c = sym (length-take-le 2048 c.args.ranks.now c.requires.ranks)

pub slice_bounds-put_reading-end-5 : goal.slice_bounds-put_reading-end-5
slice_bounds-put_reading-end-5 c = c.requires.cuts

pub slice_bounds-put_reading-end-6 : goal.slice_bounds-put_reading-end-6
slice_bounds-put_reading-end-6 c = sym (length-take-le 32768 c.args.cuts.now c.requires.cuts)

pub slice_bounds-put_reading-end-7 : goal.slice_bounds-put_reading-end-7
slice_bounds-put_reading-end-7 c = c.requires.cites

pub slice_bounds-put_reading-end-8 : goal.slice_bounds-put_reading-end-8
slice_bounds-put_reading-end-8 c = sym (length-take-le 65536 c.args.cites.now c.requires.cites)

pub slice_bounds-put_reading-end-9 : goal.slice_bounds-put_reading-end-9
slice_bounds-put_reading-end-9 c = c.requires.good

pub slice_bounds-put_reading-end-10 : goal.slice_bounds-put_reading-end-10
slice_bounds-put_reading-end-10 c = sym (length-take-le 65536 c.args.good.now c.requires.good)

pub slice_bounds-put_reading-end-11 : goal.slice_bounds-put_reading-end-11
slice_bounds-put_reading-end-11 c = c.requires.counts

pub slice_bounds-put_reading-end-12 : goal.slice_bounds-put_reading-end-12
slice_bounds-put_reading-end-12 c = sym (length-take-le 2048 c.args.counts.now c.requires.counts)

pub slice_bounds-put_reading-end-13 : goal.slice_bounds-put_reading-end-13
slice_bounds-put_reading-end-13 c = c.requires.table

pub slice_bounds-put_reading-end-14 : goal.slice_bounds-put_reading-end-14
slice_bounds-put_reading-end-14 c = sym (length-take-le 1024 c.args.table.now c.requires.table)

pub slice_bounds-put_reading-end-15 : goal.slice_bounds-put_reading-end-15
slice_bounds-put_reading-end-15 c = c.requires.order

pub slice_bounds-put_reading-end-16 : goal.slice_bounds-put_reading-end-16
slice_bounds-put_reading-end-16 c = sym (length-take-le 2048 c.args.order.now c.requires.order)

pub put_reading-requires : goal.put_reading-requires
put_reading-requires c = ample_fronts _ _ c.requires

pub shape_of-sheet : goal.shape_of-sheet
shape_of-sheet c = length_front c.args.sheet.now c.put_reading.new.sheet 110592 c.put_reading.auto.sheet

pub shape_of-ranks : goal.shape_of-ranks
shape_of-ranks c = length_front c.args.ranks.now c.put_reading.new.ranks 2048 c.put_reading.auto.ranks

pub shape_of-cuts : goal.shape_of-cuts
shape_of-cuts c = length_front c.args.cuts.now c.put_reading.new.cuts 32768 c.put_reading.auto.cuts

pub shape_of-cites : goal.shape_of-cites
shape_of-cites c = length_front c.args.cites.now c.put_reading.new.cites 65536 c.put_reading.auto.cites

pub shape_of-good : goal.shape_of-good
shape_of-good c = length_front c.args.good.now c.put_reading.new.good 65536 c.put_reading.auto.good

pub shape_of-counts : goal.shape_of-counts
shape_of-counts c = length_front c.args.counts.now c.put_reading.new.counts 2048 c.put_reading.auto.counts

pub shape_of-table : goal.shape_of-table
shape_of-table c = length_front c.args.table.now c.put_reading.new.table 1024 c.put_reading.auto.table

pub shape_of-order : goal.shape_of-order
shape_of-order c = length_front c.args.order.now c.put_reading.new.order 2048 c.put_reading.auto.order

pub returns : goal.returns
returns c = (
  c.put_reading.ensures,
  record {
    sheet = rest_stays 110592 c.args.sheet.now c.put_reading.new.sheet c.requires.sheet c.put_reading.auto.sheet;
    ranks = rest_stays 2048 c.args.ranks.now c.put_reading.new.ranks c.requires.ranks c.put_reading.auto.ranks;
    cuts = rest_stays 32768 c.args.cuts.now c.put_reading.new.cuts c.requires.cuts c.put_reading.auto.cuts;
    cites = rest_stays 65536 c.args.cites.now c.put_reading.new.cites c.requires.cites c.put_reading.auto.cites;
    good = rest_stays 65536 c.args.good.now c.put_reading.new.good c.requires.good c.put_reading.auto.good;
    counts = rest_stays 2048 c.args.counts.now c.put_reading.new.counts c.requires.counts c.put_reading.auto.counts;
    table = rest_stays 1024 c.args.table.now c.put_reading.new.table c.requires.table c.put_reading.auto.table;
    order = rest_stays 2048 c.args.order.now c.put_reading.new.order c.requires.order c.put_reading.auto.order;
  },
)
