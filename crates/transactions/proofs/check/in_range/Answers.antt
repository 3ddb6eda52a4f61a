use mathlib.Core.Path.{◌∙◌, refl, sym}
use Rattle.sums.proofs.TestLaws.{passed, took}
use Rattle.transactions.proofs.CheckLaws.{range_same}
use Rattle.transactions.proofs.check.in_range.Goals as goal

pub returns-then-not-counts_ok : goal.returns-then-not-counts_ok
returns-then-not-counts_ok c =
    let h = simp (c.byte_at.ensures, c.byte_at-o.ensures, c.byte_at-c.ensures, c.byte_at-d.ensures) at c.counts_ok.ensures in
    rw (range_same c.args.body.now c.args.a c.args.g) (sym (passed _ (sym h ∙ c.if-not-counts_ok.true) refl))

pub returns-then-not-entries_ok : goal.returns-then-not-entries_ok
returns-then-not-entries_ok c =
    let h = simp (c.byte_at.ensures, c.byte_at-o.ensures, c.byte_at-c.ensures, c.byte_at-d.ensures) at c.counts_ok.ensures in
    let d = simp (c.byte_at-d.ensures, c.debits.ensures) at c.entries_ok.ensures in
    rw (range_same c.args.body.now c.args.a c.args.g) (sym (took _ (sym h ∙ c.if-not-counts_ok.false) (passed _ (sym d ∙ c.if-not-entries_ok.true) refl)))

pub returns-then-not-entries_ok-2 : goal.returns-then-not-entries_ok-2
returns-then-not-entries_ok-2 c =
    let h = simp (c.byte_at.ensures, c.byte_at-o.ensures, c.byte_at-c.ensures, c.byte_at-d.ensures) at c.counts_ok.ensures in
    let d = simp (c.byte_at-d.ensures, c.debits.ensures) at c.entries_ok.ensures in
    let e = simp (c.byte_at-c.ensures, c.credits.ensures) at c.entries_ok-2.ensures in
    rw (range_same c.args.body.now c.args.a c.args.g) (sym (took _ (sym h ∙ c.if-not-counts_ok.false) (took _ (sym d ∙ c.if-not-entries_ok.false) (passed _ (sym e ∙ c.if-not-entries_ok-2.true) refl))))

pub returns : goal.returns
returns c =
    let h = simp (c.byte_at.ensures, c.byte_at-o.ensures, c.byte_at-c.ensures, c.byte_at-d.ensures) at c.counts_ok.ensures in
    let d = simp (c.byte_at-d.ensures, c.debits.ensures) at c.entries_ok.ensures in
    let e = simp (c.byte_at-c.ensures, c.credits.ensures) at c.entries_ok-2.ensures in
    let o = simp (c.byte_at-o.ensures, c.operations.ensures) at c.operations_ok.ensures in
    rw (range_same c.args.body.now c.args.a c.args.g) (sym (took _ (sym h ∙ c.if-not-counts_ok.false) (took _ (sym d ∙ c.if-not-entries_ok.false) (took _ (sym e ∙ c.if-not-entries_ok-2.false) (sym o)))))
