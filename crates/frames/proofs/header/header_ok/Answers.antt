use borrow.Author.Tests.{le-leb, lt-leb}
use mathlib.Core.Path.{refl, sym}
use Rattle.frames.specs.Header.{header_ok}
use Rattle.sums.proofs.TestLaws.{passed, took}
use Rattle.frames.proofs.header.header_ok.Goals as goal

pub returns-then-m-lt1 : goal.returns-then-m-lt1
unfolding header_ok
returns-then-m-lt1 c = sym (passed _ (lt-leb _ _ c.if-m-lt1.true) refl)

pub returns-then-m-gt16 : goal.returns-then-m-gt16
unfolding header_ok
returns-then-m-gt16 c = sym (took _ (le-leb _ _ c.if-m-lt1.false) (passed _ (lt-leb _ _ c.if-m-gt16.true) refl))

pub returns-then-a-lt1 : goal.returns-then-a-lt1
unfolding header_ok
returns-then-a-lt1 c = sym (took _ (le-leb _ _ c.if-m-lt1.false) (took _ (le-leb _ _ c.if-m-gt16.false) (passed _ (lt-leb _ _ c.if-a-lt1.true) refl)))

pub returns-then-a-gt1024 : goal.returns-then-a-gt1024
unfolding header_ok
returns-then-a-gt1024 c = sym (took _ (le-leb _ _ c.if-m-lt1.false) (took _ (le-leb _ _ c.if-m-gt16.false) (took _ (le-leb _ _ c.if-a-lt1.false) (passed _ (lt-leb _ _ c.if-a-gt1024.true) refl))))

pub returns-then-g-gt64 : goal.returns-then-g-gt64
unfolding header_ok
returns-then-g-gt64 c = sym (took _ (le-leb _ _ c.if-m-lt1.false) (took _ (le-leb _ _ c.if-m-gt16.false) (took _ (le-leb _ _ c.if-a-lt1.false) (took _ (le-leb _ _ c.if-a-gt1024.false) (passed _ (lt-leb _ _ c.if-g-gt64.true) refl)))))

pub returns : goal.returns
unfolding header_ok
returns c = sym (took _ (le-leb _ _ c.if-m-lt1.false) (took _ (le-leb _ _ c.if-m-gt16.false) (took _ (le-leb _ _ c.if-a-lt1.false) (took _ (le-leb _ _ c.if-a-gt1024.false) (took _ (le-leb _ _ c.if-g-gt64.false) (refl))))))
