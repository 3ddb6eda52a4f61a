-- The logs of the plain ledger on a sheet in range stay in range, and so does their report.
-- Assumes nothing.
use Prim.Native.Nat.{◌+◌, ◌/◌, ◌<◌, ◌≤◌, suc, zero, ℕ}
use borrow.Author.Tests.{leb-true}
use lib.ListN.{get_or-eq_default, get_or, get_or-replicate, length, length-replicate, length-set, replicate, set}
use lib.Seq.{get_or-set_other, get_or-set_same, set_out}
use mathlib.Core.Bool.{true}
use mathlib.Core.List.{List, [], ◌∷◌, map}
use mathlib.Core.Path.{◌∙◌, ◌≡◌, ap}
use native.Mathlib.Decide.{dec_lt, ℕ_discrete}
use native.Mathlib.Omega.{arith}
use Rattle.closing.proofs.RegisterLaws.{registers-count, registers_keep}
use Rattle.escrow.proofs.FullView.{free_all, held_all}
use Rattle.escrow.proofs.ShareRules.{share_rules}
use Rattle.escrow.proofs.Totals.{adds_up}
use Rattle.escrow.specs.Outcome.{History, full_view}
use Rattle.escrow.specs.Report.{rows_all}
use Rattle.escrow.specs.Share.{settled_count, share_of}
use Rattle.ordering.proofs.LogSum.{log-size}
use Rattle.ordering.proofs.Prefix.{all-log}
use Rattle.ordering.specs.Order.{Ref}
use Rattle.plain.proofs.Admits.{Admits, admitted}
use Rattle.plain.proofs.AnswerLaws.{accepted_of}
use Rattle.plain.proofs.Engine.{Grown}
use Rattle.plain.proofs.Follow.{block-accepted, empty-height}
use Rattle.plain.proofs.Kept.{Kept, kept_fresh, kept_more, proper}
use Rattle.plain.proofs.Lists.{list_grown}
use Rattle.plain.specs.Answer.{is_accepted}
use Rattle.plain.specs.Logs.{Logs, appended, block_from, empty_logs, history_of}
use Rattle.plain.specs.Offers.{Offer, offered}
use Rattle.plain.specs.Plain.{answer, next}
use Rattle.plain.specs.Report.{report_by, report_of}
use Rattle.settlement.specs.Books.{Status}
use Rattle.settlement.specs.Settlement.{contracts, status}
use Rattle.settlement.specs.View.{Rows, View, view_log}
use Rattle.sheets.proofs.ProperLaws.{ProperSheet}
use Rattle.sheets.specs.Operations.{Done, operate}
use Rattle.sheets.specs.Sheet.{Sheet, balance, tx_at, tx_count}
use Rattle.sums.proofs.FillLaws.{each_tabulated}
use Rattle.sums.proofs.LoopLaws.{sum_most}
use Rattle.sums.proofs.SeqLaws.{length-tabulate}
use Rattle.sums.proofs.SumLaws.{sum_term}
use Rattle.sums.proofs.TestLaws.{by-pick}
use Rattle.sums.specs.Seq.{All, tabulate}
use Rattle.sums.specs.Sum.{sum_to}
use Rattle.text.proofs.Bounds.{Below, TailFits}
use Rattle.transactions.specs.Content.{Operation, operation_of}

-- a sheet whose numbers are as wide as a run's bytes have them
pub record SheetFits (S : Sheet) : Type 0 where
  pub proper : ProperSheet S
  pub balances : (k : ℕ) → balance S k ≤ 1099511627776
  pub values : (x k : ℕ) → (operation_of (tx_at S x).operations k).value < 4294967296

-- ---- the logs

pub record LogsFit (S : Sheet) (L : Logs) : Type 0 where
  pub wide : length L ≡ S.m
  pub kept : Kept S (history_of L)
  pub ranks : (j n : ℕ) → j < S.m → n < (history_of L).height j → (history_of L).rank j n < 4294967296

pub empty_fit : (S : Sheet) → LogsFit S (empty_logs S)
empty_fit S = record { wide = length-replicate S.m []; kept = kept_fresh S _ (empty-height S); ranks = λ j n l u. absurd (omega (arith, empty-height S j l)) }

module _ (S : Sheet) (Q : ProperSheet S) (L : Logs) (o : Offer) (low : (offered S o).rank < 4294967296) (f : LogsFit S L) where
  taken : is_accepted (answer S (history_of L) o) ≡ true → LogsFit S (appended L (offered S o).instance (block_from (offered S o)))
  taken t = record {
    wide = unfold appended in (length-set L (offered S o).instance _ ∙ f.wide);
    kept = kept_more S Q.few (history_of L) _ (offered S o) f.kept A G;
    ranks = rank-low;
  }
    where
      A : Admits S (history_of L) (offered S o)
      A = admitted S (history_of L) (offered S o) (block-accepted S (history_of L) o (accepted_of _ t))

      G : Grown S.m (offered S o) (history_of L) (history_of (appended L (offered S o).instance (block_from (offered S o))))
      G = list_grown L (offered S o) (rw f.wide A.there) S.m Q.small

      H' : History
      H' = history_of (appended L (offered S o).instance (block_from (offered S o)))

      own : (n : ℕ) → n < H'.height (offered S o).instance → Dec (n < (history_of L).height (offered S o).instance) → H'.rank (offered S o).instance n < 4294967296
      own n u (yes h) = omega (arith, G.old_rank (offered S o).instance n A.there h, f.ranks (offered S o).instance n A.there h)
      own n u (no h) =
          let e : n ≡ (history_of L).height (offered S o).instance = omega (arith, G.more) in
          omega (arith, ap (H'.rank (offered S o).instance) e, G.new_rank, low)

      rank-low : (j n : ℕ) → j < S.m → n < H'.height j → H'.rank j n < 4294967296
      rank-low j n l u = elim (ℕ_discrete j (offered S o).instance) [
        | yes q ↦ rw q (own n (rw q at u) (dec_lt n _))
        | no q ↦ let h : n < (history_of L).height j = omega (arith, G.others j l q) in omega (arith, G.old_rank j n l h, f.ranks j n l h)
      ]

  pub next_fit : LogsFit S (next S L o)
  unfolding next
  next_fit = by-pick (LogsFit S) (is_accepted (answer S (history_of L) o)) (λ t. taken t) (λ t. f)

-- ---- the registers

pub low_set : (b : ℕ) (l : List ℕ) (i v : ℕ) → Below b l → v < b → Below b (set l i v)
low_set b l i v h u k = elim (ℕ_discrete k i) [
  | yes q ↦ rw q (own (dec_lt i (length l)))
  | no q ↦ rw (get_or-set_other l i k v 0 q) (h k)
]
  where
    own : Dec (i < length l) → get_or (set l i v) i 0 < b
    own (yes w) = rw (get_or-set_same l i v 0 w) u
    own (no w) = rw (set_out l i v (omega arith)) (h i)

pub zeros_low : (b n : ℕ) → 0 < b → Below b (replicate n 0)
zeros_low b n z k = elim (dec_lt k n) [
  | yes u ↦ rw (get_or-replicate {A = ℕ} n k 0 0 u) z
  | no u ↦ rw (get_or-eq_default (replicate {A = ℕ} n 0) 0 {n = k} (omega (arith, length-replicate {A = ℕ} n 0))) z
]

abbrev Low : Done → Type 0
Low d = Below 4294967296 d.registers

operate_low : (op : Operation) (r : List ℕ) → op.value < 4294967296 → Below 4294967296 r → Low (operate op r)
unfolding operate
operate_low op r v h =
    by-pick Low _ (λ e. h)
    (λ e. by-pick Low _ (λ e. h)
    (λ e. by-pick Low _ (λ e. low_set _ r _ _ h v)
    (λ e. by-pick Low _ (λ e. by-pick Low _ (λ t. low_set _ r _ _ h (omega (arith, leb-true (get_or r op.register 0 + op.value) 4294967295 t))) (λ t. h))
    (λ e. by-pick Low _ (λ t. low_set _ r _ _ h (omega (arith, h op.register))) (λ t. h)))))

registers_low : (S : Sheet) → ((x k : ℕ) → (operation_of (tx_at S x).operations k).value < 4294967296) → (R : Rows) (w : View) → Below 4294967296 (contracts S R w).registers
registers_low S v R w =
    registers_keep S (Below 4294967296) (λ x k r h. operate_low (operation_of (tx_at S x).operations k) r (v x k) h) R w (zeros_low 4294967296 S.g (omega arith))

-- ---- the report

share_low : (t : ℕ) (st : ℕ → Status) → share_of t st < 4294967296
unfolding share_of
share_low t st = omega (arith, share_rules.most (settled_count t st) t (share_rules.counted t st))

below-tabulate : (b n : ℕ) (f : ℕ → ℕ) → 0 < b → ((k : ℕ) → k < n → f k < b) → Below b (tabulate n f)
below-tabulate b n f z h = each_tabulated (λ (v : ℕ). v < b) n f 0 h z

below_all : (b : ℕ) (f : Ref → ℕ) (l : List Ref) → 0 < b → All (λ (x : Ref). f x < b) l → Below b (map f l)
below_all b f [] z h k = z
below_all b f (x ∷ l) z h zero = h.0
below_all b f (x ∷ l) z h (suc k) = below_all b f l z h.1 k

module _ (S : Sheet) (T : SheetFits S) (L : Logs) (f : LogsFit S L) where
  -- so many blocks of each instance
  blocks : (j : ℕ) → j < S.m → full_view (history_of L) j / 32 ≤ 128
  unfolding full_view
  blocks j l = omega (arith, f.kept.short j l)

  abbrev counts : ℕ → ℕ
  counts j = full_view (history_of L) j / 32

  total : sum_to S.a (free_all S (history_of L)) + sum_to S.a (held_all S (history_of L)) ≤ 1125899906842624
  total =
      omega (arith, adds_up S T.proper (history_of L) (proper S _ f.kept), sum_most S.a 1099511627776 (balance S) (λ k l. T.balances k), T.proper.accounts)

  few : sum_to S.m counts ≤ 2048
  few = omega (arith, sum_most S.m 128 counts blocks, T.proper.small)

  pub report_fits : TailFits (report_of S L)
  unfolding report_of report_by view_log free_all held_all
  report_fits = record {
    blocks = omega (arith, log-size S.m T.proper.small (rows_all S (history_of L)).rank counts, few);
    transactions = omega (arith, length-tabulate (tx_count S) (status S (rows_all S (history_of L)) (full_view (history_of L))), T.proper.few);
    accounts = omega (arith, length-tabulate S.a (free_all S (history_of L)), T.proper.accounts);
    cells = omega (arith, registers-count S (rows_all S (history_of L)) (full_view (history_of L)), T.proper.registers);
    instances = below_all 65536 (λ b. b.instance) (report_of S L).log (omega arith) (all-log S.m (rows_all S (history_of L)).rank counts (λ b. b.instance < 65536) (λ i n l u h. omega (arith, T.proper.small)));
    numbers = below_all 65536 (λ b. b.index + 1) (report_of S L).log (omega arith) (all-log S.m (rows_all S (history_of L)).rank counts (λ b. b.index + 1 < 65536) (λ i n l u h. omega (arith, blocks i l)));
    frees = below-tabulate _ S.a (free_all S (history_of L)) (omega arith) (λ k u. omega (arith, sum_term S.a (free_all S (history_of L)) k u, total));
    helds = below-tabulate _ S.a (held_all S (history_of L)) (omega arith) (λ k u. omega (arith, sum_term S.a (held_all S (history_of L)) k u, total));
    values = registers_low S T.values (rows_all S (history_of L)) (full_view (history_of L));
    shares = share_low (tx_count S) _;
  }
