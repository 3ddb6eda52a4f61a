use borrow.Author.Rules.{rules}
use lib.ListN.{length}
use mathlib.Core.Path.{◌≡◌, refl}
use native.Mathlib.Omega.{arith}
use Rattle.fields.proofs.RowLaws.{rows_none}
use Rattle.fields.specs.Rows.{list_bytes}
use Rattle.frames_write.proofs.BodyStores.{numbers_more}
use Rattle.frames_write.proofs.lists.put_numbers.Goals as goal

pub loop-k-init : goal.loop-k-init
loop-k-init c = (search rules, rw rows_none refl)

pub loop-k-preserved : goal.loop-k-preserved
loop-k-preserved c = (omega arith, numbers_more 2 c.args.out.now c.args.list.now c.args.at c.loop-k.k refl c.loop-k.invariant.1 c.put_u16.ensures)

pub returns : goal.returns
unfolding list_bytes
returns c = let q : length c.args.list.now ≡ c.loop-k.k = omega arith in rw q c.loop-k.invariant.1
