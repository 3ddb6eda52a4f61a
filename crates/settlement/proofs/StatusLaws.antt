-- Laws of the statuses: paid and returned stay so in a larger view (`status_keeps`); a paid transaction's parts are all there (`paid-whole`), each of them good (`paid-parts`).
-- Assumes nothing.
use Prim.Native.Nat.{◌*◌, ◌+◌, ◌/◌, ◌<◌, ◌≤◌, suc, zero, ℕ}
use borrow.Author.Tests.{eq-eqb, eqb-false, eqb-true, ltb-true, ne_eqb}
use lib.Dec.{eqb, ltb}
use mathlib.Core.Bool.{Bool, false, true}
use mathlib.Core.List.{List, [], ◌∷◌}
use mathlib.Core.Logic.{◌≢◌}
use mathlib.Core.Path.{◌∙◌, ◌≡◌, ap, refl, sym}
use native.Mathlib.Nat.{one-mul}
use native.Mathlib.Omega.{arith}
use Rattle.ordering.proofs.Prefix.{log-begins}
use Rattle.ordering.specs.Table.{Climbs}
use Rattle.settlement.proofs.ContractLaws.{event_sum, paid-all, paid_ne_open, settled_stays}
use Rattle.settlement.proofs.ViewOnly.{log-le_view, log_events-append}
use Rattle.settlement.specs.Books.{Status, empty_book, paid, pending, run_all}
use Rattle.settlement.specs.Settlement.{cited, contracts, failed, is_cite, is_fail, payment, status}
use Rattle.settlement.specs.View.{Event, Rows, View, event_at, log_events, view_log, view_sum}
use Rattle.sheets.specs.Parts.{has_part, is_contract, parts}
use Rattle.sheets.specs.Sheet.{Sheet, tx_count}
use Rattle.sums.proofs.SumLaws.{sum_add, sum_ext, sum_le, sum_none, sum_tight, sum_wider}
use Rattle.sums.proofs.TestLaws.{by-given, by-pick, given_add, given_false, given_true, pick-false, pick_true, sum_scale}
use Rattle.sums.specs.Seq.{Begins}
use Rattle.sums.specs.Sum.{sum_to}
use Rattle.sums.specs.Test.{bit, flip, given}

-- ---- good and failed citations

unfoldable pub wins : ℕ → Event → ℕ
wins y e = given (eqb e.tx y) (bit e.good)

fail_or_win : (y : ℕ) (e : Event) → is_cite y e ≡ is_fail y e + wins y e
unfolding is_cite is_fail wins
fail_or_win y e = ap (given (eqb e.tx y)) (one e.good) ∙ given_add _ _ _
  where
    one : (b : Bool) → 1 ≡ flip b + bit b
    one true = refl
    one false = refl

view_split : (S : Sheet) (R : Rows) (v : View) (x : ℕ) → view_sum S R v (is_cite x) ≡ view_sum S R v (is_fail x) + view_sum S R v (wins x)
unfolding view_sum
view_split S R v x =
    sum_ext S.m _ _ (λ j l. sum_ext (v j) _ _ (λ p u. fail_or_win x (event_at R j p)) ∙ sum_add (v j) _ _) ∙ sum_add S.m _ _

event_split : (x : ℕ) (l : List Event) → event_sum (is_cite x) l ≡ event_sum (is_fail x) l + event_sum (wins x) l
unfolding event_sum
event_split x [] = refl
event_split x (e ∷ l) = omega (arith, event_split x l, fail_or_win x e)

-- an instance cites a transaction at most once, and only if it has a part there
abbrev pub Once : Sheet → Rows → View → Type 0
Once S R v = (x j : ℕ) → x < tx_count S → j < S.m → sum_to (v j) (λ p. is_cite x (event_at R j p)) ≤ given (has_part S x j) 1

pub cited-le : (S : Sheet) (R : Rows) (v : View) → Once S R v → (x : ℕ) → x < tx_count S → view_sum S R v (is_cite x) ≤ parts S x
unfolding view_sum parts
cited-le S R v once x t = sum_le S.m _ _ (λ j l. once x j t l)

-- what is paid is whole: every part is cited, and none failed
pub record IsWhole (S : Sheet) (R : Rows) (v : View) (x : ℕ) : Type 0 where
  pub all : view_sum S R v (is_cite x) ≡ parts S x
  pub none : view_sum S R v (is_fail x) ≡ 0

whole-contract : (S : Sheet) → S.m ≤ 16 → (R : Rows) (v : View) → Once S R v → (x : ℕ) → x < tx_count S → is_contract S x ≡ true
    → (contracts S R v).status x ≡ paid → IsWhole S R v x
unfolding contracts
whole-contract S small R v once x t c q =
    let l : List Event = log_events R (view_log S R v) in
    let a : event_sum (is_cite x) l ≤ view_sum S R v (is_cite x) = log-le_view S small R v (is_cite x) in
    let b : event_sum (wins x) l ≤ view_sum S R v (wins x) = log-le_view S small R v (wins x) in
    let d : view_sum S R v (is_cite x) ≤ parts S x = cited-le S R v once x t in
    let (p, f) = paid-all S l x c q (omega arith) in
    record {
      all = omega arith;
      none = omega (arith, view_split S R v x, event_split x l);
    }

whole-payment : (S : Sheet) (R : Rows) (v : View) (x : ℕ) → payment S R v x ≡ paid → IsWhole S R v x
unfolding payment cited failed
whole-payment S R v x =
    by-pick (λ (t : Status). t ≡ paid → IsWhole S R v x) (eqb (view_sum S R v (is_fail x)) 0)
    (λ f. by-pick (λ (t : Status). t ≡ paid → IsWhole S R v x) (eqb (view_sum S R v (is_cite x)) (parts S x))
    (λ c q. record { all = eqb-true _ _ c; none = eqb-true _ _ f }) (λ c q. absurd (paid_ne_open (sym q))))
    (λ f q. let z : ◌≡◌ {A = ℕ} 0 1 = cc in absurd (omega arith))

-- of a paid transaction, payment or contract, every part is in the view, and none failed
pub paid-whole : (S : Sheet) → S.m ≤ 16 → (R : Rows) (v : View) → Once S R v → (x : ℕ) → status S R v x ≡ paid → IsWhole S R v x
unfolding status
paid-whole S small R v once x =
    by-pick (λ (t : Status). t ≡ paid → IsWhole S R v x) (ltb x (tx_count S))
    (λ t. by-pick (λ (t : Status). t ≡ paid → IsWhole S R v x) (is_contract S x)
    (λ c q. whole-contract S small R v once x (ltb-true _ _ t) c q) (λ c q. whole-payment S R v x q))
    (λ t q. absurd (paid_ne_open (sym q)))

-- ---- what is settled stays so in a larger view

module _ (S : Sheet) (some : 0 < S.m) (R : Rows) (v v' : View)
    (grown : (j : ℕ) → j < S.m → v j ≤ v' j)
    (climbs : (j : ℕ) → j < S.m → Climbs (R.rank j) (v' j / 32))
    (once : Once S R v') where
  -- the log of the smaller view is a beginning of the larger one's
  pub view_log-begins : Begins (view_log S R v) (view_log S R v')
  unfolding view_log
  view_log-begins = log-begins S.m R.rank (λ j. v j / 32) (λ j. v' j / 32) some (λ j l. omega (arith, grown j l)) climbs

  contract_keeps : (x : ℕ) → (contracts S R v).status x ≢ pending → (contracts S R v').status x ≡ (contracts S R v).status x
  unfolding contracts
  contract_keeps x n =
      let (rest, e) = view_log-begins in
      ap (λ (l : List Event). (run_all S (empty_book S) l).status x)
      (ap (log_events R) (sym e) ∙ log_events-append R (view_log S R v) rest)
      ∙ settled_stays S (log_events R (view_log S R v)) (log_events R rest) x n

  view_sum_up : (w : Event → ℕ) → view_sum S R v w ≤ view_sum S R v' w
  unfolding view_sum
  view_sum_up w = sum_wider S.m v v' (λ j p. w (event_at R j p)) grown

  payment_keeps : (x : ℕ) → x < tx_count S → payment S R v x ≢ pending → payment S R v' x ≡ payment S R v x
  unfolding payment cited failed
  payment_keeps x t =
      by-pick (λ (t : Status). t ≢ pending → payment S R v' x ≡ t) (eqb (view_sum S R v (is_fail x)) 0)
      (λ f. by-pick (λ (t : Status). t ≢ pending → payment S R v' x ≡ t) (eqb (view_sum S R v (is_cite x)) (parts S x))
      (λ c n.
      let c0 : view_sum S R v (is_cite x) ≡ parts S x = eqb-true _ _ c in
      let f0 : view_sum S R v (is_fail x) ≡ 0 = eqb-true _ _ f in
      let c1 : view_sum S R v' (is_cite x) ≡ parts S x = omega (arith, view_sum_up (is_cite x), cited-le S R v' once x t) in
      let f1 : view_sum S R v' (is_fail x) ≡ 0 = omega (arith, view_sum_up (wins x), view_split S R v x, view_split S R v' x) in
      pick_true _ _ _ (eq-eqb _ _ f1) ∙ pick_true _ _ _ (eq-eqb _ _ c1))
      (λ c n. absurd (n refl)))
      (λ f n. pick-false _ _ _ (ne_eqb (view_sum S R v' (is_fail x)) 0 (λ z. eqb-false (view_sum S R v (is_fail x)) 0 f (omega (arith, view_sum_up (is_fail x))))))

  -- what is paid, and what is returned, is so in the larger view
  pub status_keeps : (x : ℕ) → status S R v x ≢ pending → status S R v' x ≡ status S R v x
  unfolding status
  status_keeps x =
      by-pick (λ (s : Status). s ≢ pending → status S R v' x ≡ s) (ltb x (tx_count S))
      (λ t. by-pick (λ (s : Status). s ≢ pending → status S R v' x ≡ s) (is_contract S x)
      (λ c n. pick_true _ _ _ t ∙ pick_true _ _ _ c ∙ contract_keeps x n)
      (λ c n. pick_true _ _ _ t ∙ pick-false _ _ _ c ∙ payment_keeps x (ltb-true _ _ t) n))
      (λ t n. absurd (n refl))

-- ---- a whole transaction's debits are booked once each

-- no failed citation of x in the view: a citation of x is good
good-there : (S : Sheet) (R : Rows) (v : View) (x : ℕ) → view_sum S R v (is_fail x) ≡ 0 → (j p : ℕ) → j < S.m → p < v j → (d : ℕ)
    → given (R.good j p) (given (eqb (R.cell j p) x) d) ≡ given (eqb (R.cell j p) x) d
unfolding view_sum is_fail event_at given
good-there S R v x z j p l u d = go (R.good j p) (eqb (R.cell j p) x) (sum_none (v j) _ (sum_none S.m _ z j l) p u)
  where
    go : (g b : Bool) → given b (flip g) ≡ 0 → given g (given b d) ≡ given b d
    go true b e = refl
    go false true e = absurd (omega arith)
    go false false e = refl

-- each instance cites it as often as it has a part there
cited_each : (S : Sheet) (R : Rows) (v : View) → Once S R v → (x : ℕ) → x < tx_count S → view_sum S R v (is_cite x) ≡ parts S x → (j : ℕ) → j < S.m
    → sum_to (v j) (λ p. given (eqb (R.cell j p) x) 1) ≡ given (has_part S x j) 1
unfolding view_sum parts is_cite event_at
cited_each S R v once x t e j l = sum_tight S.m _ _ (λ i u. once x i t u) (omega arith) j l

pub booked-once : (S : Sheet) (R : Rows) (v : View) → Once S R v → (x : ℕ) → x < tx_count S → IsWhole S R v x → (j : ℕ) → j < S.m → (d : ℕ)
    → (has_part S x j ≡ false → d ≡ 0)
    → sum_to (v j) (λ p. given (R.good j p) (given (eqb (R.cell j p) x) d)) ≡ d
booked-once S R v once x t w j l d h =
    sum_ext (v j) _ _ (λ p u. good-there S R v x w.none j p l u d)
    ∙ sum_scale (v j) (λ p. eqb (R.cell j p) x) d
    ∙ ap (λ (n : ℕ). n * d) (cited_each S R v once x t w.all j l)
    ∙ by-given (λ (n : ℕ). n * d ≡ d) (has_part S x j) 1 (λ e. one-mul d) (λ e. rw (h e))

-- ---- a paid transaction's part in each instance, by its place

-- a sum of tests that is not 0 has a place where the test passes
some-place : (n : ℕ) (f : ℕ → Bool) → 1 ≤ sum_to n (λ p. given (f p) 1) → (p : ℕ) × ((p < n) × (f p ≡ true))
unfolding sum_to
some-place zero f h = absurd (omega arith)
some-place (suc n) f h = go (f n) refl (λ l. some-place n f l)
  where
    go : (u : Bool) → f n ≡ u → (1 ≤ sum_to n (λ p. given (f p) 1) → (p : ℕ) × ((p < n) × (f p ≡ true))) → (p : ℕ) × ((p < suc n) × (f p ≡ true))
    go true e ih = (n, (omega arith, e))
    go false e ih = let (p, q) = ih (omega (arith, given_false (f n) 1 e)) in (p, (omega (arith, q.0), q.1))

-- each part of a paid transaction is cited in the view, by its own instance, and is good
pub paid-parts : (S : Sheet) → S.m ≤ 16 → (R : Rows) (v : View) → Once S R v → (x : ℕ) → x < tx_count S → status S R v x ≡ paid
    → (j : ℕ) → j < S.m → has_part S x j ≡ true → (p : ℕ) × ((p < v j) × ((R.cell j p ≡ x) × (R.good j p ≡ true)))
paid-parts S small R v once x t q j l h =
    let w : IsWhole S R v x = paid-whole S small R v once x q in
    let one : sum_to (v j) (λ p. given (eqb (R.cell j p) x) 1) ≡ 1 = cited_each S R v once x t w.all j l ∙ given_true (has_part S x j) 1 h in
    let (p, c) = some-place (v j) (λ p. eqb (R.cell j p) x) (omega arith) in
    let here : given (eqb (R.cell j p) x) 1 ≡ 1 = given_true (eqb (R.cell j p) x) 1 c.1 in
    let both' : given (R.good j p) (given (eqb (R.cell j p) x) 1) ≡ 1 = good-there S R v x w.none j p l c.0 1 ∙ here in
    (p, (c.0, (eqb-true (R.cell j p) x c.1, good (R.good j p) _ both')))
  where
    good : (g : Bool) (n : ℕ) → given g n ≡ 1 → g ≡ true
    good true n e = refl
    good false n e = absurd (omega (arith, given_false false n refl))
