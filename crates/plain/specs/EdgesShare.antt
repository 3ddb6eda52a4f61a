-- The share of request 05: its figures and others, as runs and as counts. specs/EdgesFurther puts the runs into the table; proofs/Edges shows that each holds.
-- Assumes nothing.
use Rattle.std.specs.Prelude.{◌-◌, ℕ, replicate, List, [], ◌++◌, ◌∷◌, ◌≡◌}
use Rattle.escrow.specs.Share.{thousandths}
use Rattle.ordering.specs.Order.{key_of, ref_of}
use Rattle.plain.specs.Edges.{Row, blk, ent, pay, reads, row, sheet_of, yes}
use Rattle.settlement.specs.Books.{paid, pending}
use Rattle.sums.specs.Seq.{tabulate}

-- t instances, each with an account that pays itself 1; the first s of them deliver a block that cites their payment, so that s of t are settled. The bar is
-- (1, s) while there is an instance s without a block, and with all 16 the same number, (2, 0)
abbrev pub settles : ℕ → ℕ → ℕ → Row
settles s t n = row (sheet_of t 0 (replicate t 1) (tabulate t (λ x. pay (ent x 1 ∷ []) (ent x 1 ∷ []))))
    (tabulate s (λ i. blk i 1 1 0 0 (i ∷ []))) (yes s) (key_of 1 s)
    (reads (tabulate s (λ i. ref_of i 0)) (replicate s paid ++ replicate (t - s) pending) (replicate t 1) (replicate t 0) [] n)

-- "One settled of 16 is 62.5 thousandths and prints 62; three of 16 is 187.5 and prints 188. None of 16 prints 0, all print 1000".
-- Then 333.3 and 666.7, 428.6 and 571.4
abbrev pub rounded : List Row
rounded = settles 1 16 62 ∷ settles 3 16 188 ∷ settles 0 16 0 ∷ settles 16 16 1000 ∷ settles 1 3 333 ∷ settles 2 3 667 ∷ settles 3 7 429 ∷ settles 4 7 571 ∷ []

-- s of t and the share
pub record Figure : Type 0 where
  pub settled : ℕ
  pub all : ℕ
  pub share : ℕ

abbrev pub figure : ℕ → ℕ → ℕ → Figure
figure s t n = record { settled = s; all = t; share = n }

abbrev pub Prints : Figure → Type 0
Prints f = thousandths f.settled f.all ≡ f.share

-- "t 0 still prints 1000"; of 1,024, the most that a sheet has: 0.98 and 999.02, the ties 62.5 and 187.5, and beside a tie 61.52 and 63.48;
-- of 2,000 a tie at each end, where 0 is not none and 1000 not all; the largest counts that the code takes: just below 500, and above 1000
-- where more are settled than there are
abbrev pub figures : List Figure
figures =
    figure 0 0 1000 ∷ figure 1 1024 1 ∷ figure 1023 1024 999 ∷ figure 64 1024 62 ∷ figure 192 1024 188 ∷ figure 63 1024 62 ∷ figure 65 1024 63
    ∷ figure 1 2000 0 ∷ figure 1999 2000 1000 ∷ figure 2147483647 4294967295 500 ∷ figure 4294967295 1 4294967295000 ∷ []
