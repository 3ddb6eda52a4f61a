-- Laws of the contracts' fold over a log: what is settled stays settled (`settled_stays`), and what is paid met all its parts, none of them failed (`paid-all`).
-- Assumes nothing.
use Prim.Native.Nat.{◌+◌, ◌≤◌, ℕ}
use borrow.Author.Tests.{eqb-true, ne_eqb}
use lib.Dec.{eqb}
use mathlib.Core.Bool.{Bool, false, true}
use mathlib.Core.List.{List, [], ◌++◌, ◌∷◌, foldl-append}
use mathlib.Core.Logic.{◌≢◌}
use mathlib.Core.Path.{◌∙◌, ◌≡◌, ap, refl, sym}
use native.Mathlib.Nat.{add_assoc, add-zero}
use native.Mathlib.Omega.{arith}
use Rattle.settlement.specs.Books.{Book, Status, booked, counted, empty_book, paid, pending, returned, run_all, settled, step}
use Rattle.settlement.specs.Settlement.{is_cite, is_fail}
use Rattle.settlement.specs.View.{Event}
use Rattle.sheets.specs.Operations.{operated}
use Rattle.sheets.specs.Parts.{is_contract, parts}
use Rattle.sheets.specs.Sheet.{Sheet}
use Rattle.sums.proofs.TestLaws.{both_true, by-pick, given_false, given_true, put_add, put_same}
use Rattle.sums.specs.Test.{both, flip, given, pick, put}

-- settled only after all parts were seen
abbrev pub Sound : Sheet → Book → Type 0
Sound S s = (y : ℕ) → s.status y ≢ pending → parts S y ≤ s.seen y

-- a step keeps what is settled, counts up, and keeps Sound
pub record Onward (S : Sheet) (s s' : Book) : Type 0 where
  pub sound : Sound S s'
  pub same : (y : ℕ) → s.status y ≢ pending → s'.status y ≡ s.status y
  pub up : (y : ℕ) → s.seen y ≤ s'.seen y

kept_refl : (S : Sheet) (s : Book) → Sound S s → Onward S s s
kept_refl S s h = record { sound = h; same = λ y n. refl; up = λ y. omega arith }

kept_trans : (S : Sheet) (a b c : Book) → Onward S a b → Onward S b c → Onward S a c
kept_trans S a b c p q = record {
  sound = q.sound;
  same = λ y n. q.same y (λ e. n (sym (p.same y n) ∙ e)) ∙ p.same y n;
  up = λ y. omega (arith, p.up y, q.up y);
}

counted-kept : (S : Sheet) (s : Book) (e : Event) → Sound S s → Onward S s (counted s e)
unfolding counted pick
counted-kept S s e h = record { sound = λ y n. omega (arith, h y n, up' y (eqb y e.tx) refl); same = λ y n. refl; up = λ y. up' y (eqb y e.tx) refl }
  where
    up' : (y : ℕ) (b : Bool) → eqb y e.tx ≡ b → s.seen y ≤ pick b (s.seen e.tx + 1) (s.seen y)
    up' y true q = rw (eqb-true y e.tx q) (omega arith)
    up' y false q = omega arith

open_of : (t : Status) → (t ≢ pending → ⊥) → t ≡ pending
open_of pending h = refl
open_of paid h = absurd (h (λ e. let z : ◌≡◌ {A = ℕ} 0 1 = cc in omega arith))
open_of returned h = absurd (h (λ e. let z : ◌≡◌ {A = ℕ} 0 1 = cc in omega arith))

module _ (S : Sheet) (s : Book) (x : ℕ) (h : Sound S s) (o : s.status x ≡ pending) (l : parts S x ≤ s.seen x) where
  marked : (v : Status) (r : List ℕ) → Onward S s (record { registers = r; seen = s.seen; spoiled = s.spoiled; status = put s.status x v })
  marked v r = record {
    sound = λ y n. by-pick (λ (t : Status). t ≢ pending → parts S y ≤ s.seen y) (eqb y x) (λ q n'. rw (eqb-true y x q) l) (λ q n'. h y n') n;
    same = λ y n. by-pick (λ (t : Status). t ≡ s.status y) (eqb y x) (λ q. absurd (n (ap s.status (eqb-true y x q) ∙ o))) (λ q. refl);
    up = λ y. omega arith;
  }

  settled-kept : Onward S s (settled S s x)
  unfolding settled
  settled-kept = by-pick (Onward S s) _ (λ q. marked paid _) (λ q. marked returned _)

seen-counted : (s : Book) (e : Event) → (counted s e).seen e.tx ≡ s.seen e.tx + 1
unfolding counted
seen-counted s e = put_same s.seen e.tx _

status-counted : (s : Book) (e : Event) (y : ℕ) → (counted s e).status y ≡ s.status y
unfolding counted
status-counted s e y = refl

booked-kept : (S : Sheet) (s : Book) (e : Event) → Sound S s → Onward S s (booked S s e)
unfolding booked
booked-kept S s e h =
    by-pick (Onward S s) (eqb ((counted s e).seen e.tx) (parts S e.tx))
    (λ q.
    let full : (counted s e).seen e.tx ≡ parts S e.tx = eqb-true _ _ q in
    let was : s.status e.tx ≡ pending = open_of _ (λ n. omega (arith, h e.tx n, seen-counted s e)) in
    kept_trans S s (counted s e) _ (counted-kept S s e h)
    (settled-kept S (counted s e) e.tx (counted-kept S s e h).sound (status-counted s e e.tx ∙ was) (omega arith)))
    (λ q. counted-kept S s e h)

pub step_kept : (S : Sheet) (s : Book) (e : Event) → Sound S s → Onward S s (step S s e)
unfolding step
step_kept S s e h = by-pick (Onward S s) _ (λ q. booked-kept S s e h) (λ q. kept_refl S s h)

pub run_kept : (S : Sheet) (s : Book) (l : List Event) → Sound S s → Onward S s (run_all S s l)
unfolding run_all
run_kept S s [] h = kept_refl S s h
run_kept S s (e ∷ l) h = kept_trans S s (step S s e) _ (step_kept S s e h) (run_kept S (step S s e) l (step_kept S s e h).sound)

pub empty-sound : (S : Sheet) → Sound S (empty_book S)
empty-sound S y n = absurd (n refl)

-- the fold over a beginning agrees with the fold over the whole on every settled contract
pub settled_stays : (S : Sheet) (a rest : List Event) (y : ℕ) → (run_all S (empty_book S) a).status y ≢ pending
    → (run_all S (empty_book S) (a ++ rest)).status y ≡ (run_all S (empty_book S) a).status y
unfolding run_all
settled_stays S a rest y n =
    ap (λ (t : Book). t.status y) (foldl-append (step S) (empty_book S) a rest)
    ∙ (run_kept S (run_all S (empty_book S) a) rest (run_kept S (empty_book S) a (empty-sound S)).sound).same y n

-- ---- what the counts are

unfoldable pub event_sum : (Event → ℕ) → List Event → ℕ
event_sum w [] = 0
event_sum w (e ∷ l) = w e + event_sum w l

pub event_sum_append : (w : Event → ℕ) (l l' : List Event) → event_sum w (l ++ l') ≡ event_sum w l + event_sum w l'
unfolding event_sum
event_sum_append w [] l' = omega arith
event_sum_append w (e ∷ l) l' = ap (λ (z : ℕ). w e + z) (event_sum_append w l l') ∙ sym (add_assoc _ _ _)

-- an event of what is no contract counts for no contract
stranger : (S : Sheet) (e : Event) (y n : ℕ) → is_contract S y ≡ true → is_contract S e.tx ≡ false → given (eqb e.tx y) n ≡ 0
stranger S e y n c d = given_false _ _ (ne_eqb e.tx y (λ q. let z : ◌≡◌ {A = Bool} true false = sym c ∙ sym (ap (is_contract S) q) ∙ d in let z' : ◌≡◌ {A = ℕ} 0 1 = cc in omega arith))

-- a count of the book that no settlement changes, and to which each event adds its weight
module _ (S : Sheet) (count : Book → ℕ → ℕ) (weight : Event → ℕ) (kept : (s : Book) (x : ℕ) → count (settled S s x) ≡ count s)
    (adds : (s : Book) (e : Event) (y : ℕ) → count (counted s e) y ≡ count s y + given (eqb e.tx y) (weight e)) where
  booked-count : (s : Book) (e : Event) (y : ℕ) → count (booked S s e) y ≡ count s y + given (eqb e.tx y) (weight e)
  unfolding booked
  booked-count s e y =
      by-pick (λ (t : Book). count t y ≡ count (counted s e) y) (eqb ((counted s e).seen e.tx) (parts S e.tx))
      (λ q. ap (λ (f : ℕ → ℕ). f y) (kept (counted s e) e.tx)) (λ q. refl)
      ∙ adds s e y

  step_count : (s : Book) (e : Event) (y : ℕ) → is_contract S y ≡ true → count (step S s e) y ≡ count s y + given (eqb e.tx y) (weight e)
  unfolding step
  step_count s e y c =
      by-pick (λ (t : Book). count t y ≡ count s y + given (eqb e.tx y) (weight e)) (is_contract S e.tx) (λ q. booked-count s e y)
      (λ q. sym (ap (λ (z : ℕ). count s y + z) (stranger S e y (weight e) c q) ∙ add-zero _))

  run_count : (s : Book) (l : List Event) (y : ℕ) → is_contract S y ≡ true → count (run_all S s l) y ≡ count s y + event_sum (λ e. given (eqb e.tx y) (weight e)) l
  unfolding run_all event_sum
  run_count s [] y c = sym (add-zero _)
  run_count s (e ∷ l) y c =
      run_count (step S s e) l y c ∙ ap (λ (z : ℕ). z + event_sum (λ e. given (eqb e.tx y) (weight e)) l) (step_count s e y c) ∙ add_assoc _ _ _

settled-counts : (S : Sheet) (s : Book) (x : ℕ) → ((settled S s x).seen ≡ s.seen) × ((settled S s x).spoiled ≡ s.spoiled)
unfolding settled
settled-counts S s x = by-pick (λ (t : Book). (t.seen ≡ s.seen) × (t.spoiled ≡ s.spoiled)) _ (λ e. (refl, refl)) (λ e. (refl, refl))

pub run_seen : (S : Sheet) (s : Book) (l : List Event) (y : ℕ) → is_contract S y ≡ true → (run_all S s l).seen y ≡ s.seen y + event_sum (is_cite y) l
unfolding is_cite counted
run_seen S = run_count S (λ s. s.seen) (λ e. 1) (λ s x. (settled-counts S s x).0) (λ s e y. put_add s.seen e.tx y 1)

pub run_spoiled : (S : Sheet) (s : Book) (l : List Event) (y : ℕ) → is_contract S y ≡ true → (run_all S s l).spoiled y ≡ s.spoiled y + event_sum (is_fail y) l
unfolding is_fail counted
run_spoiled S = run_count S (λ s. s.spoiled) (λ e. flip e.good) (λ s x. (settled-counts S s x).1) (λ s e y. put_add s.spoiled e.tx y (flip e.good))

-- ---- paid only with no part spoiled

abbrev pub Clean : Sheet → Book → Type 0
Clean S s = (y : ℕ) → s.status y ≡ paid → s.seen y ≤ parts S y → s.spoiled y ≡ 0

pub paid_ne_open : paid ≢ pending
paid_ne_open e = let z : ◌≡◌ {A = ℕ} 0 1 = cc in omega arith

pub returned_ne_open : returned ≢ pending
returned_ne_open e = let z : ◌≡◌ {A = ℕ} 0 1 = cc in omega arith

counted_clean : (S : Sheet) (s : Book) (e : Event) → Sound S s → Clean S s → Clean S (counted s e)
unfolding counted
counted_clean S s e h k y q l = go (eqb e.tx y) refl
  where
    settled-y : s.status y ≢ pending
    settled-y w = paid_ne_open (sym q ∙ w)

    go : (b : Bool) → eqb e.tx y ≡ b → put s.spoiled e.tx (s.spoiled e.tx + flip e.good) y ≡ 0
    go true w = absurd (omega (arith, h y settled-y, l, put_add s.seen e.tx y 1, given_true (eqb e.tx y) 1 w))
    go false w =
        put_add s.spoiled e.tx y _ ∙ ap (λ (z : ℕ). s.spoiled y + z) (given_false (eqb e.tx y) _ w) ∙ add-zero _
        ∙ k y q (omega (arith, l, put_add s.seen e.tx y 1, given_false (eqb e.tx y) 1 w))

settled_clean : (S : Sheet) (s : Book) (x : ℕ) → Clean S s → Clean S (settled S s x)
unfolding settled
settled_clean S s x k =
    by-pick (Clean S) (both (eqb (s.spoiled x) 0) (operated S x s.registers).passes)
    (λ b y. by-pick (λ (t : Status). t ≡ paid → s.seen y ≤ parts S y → s.spoiled y ≡ 0) (eqb y x)
    (λ w q l. ap s.spoiled (eqb-true y x w) ∙ eqb-true (s.spoiled x) 0 (both_true _ b).0) (λ w q l. k y q l))
    (λ b y. by-pick (λ (t : Status). t ≡ paid → s.seen y ≤ parts S y → s.spoiled y ≡ 0) (eqb y x)
    (λ w q l. cc) (λ w q l. k y q l))

step_clean : (S : Sheet) (s : Book) (e : Event) → Sound S s → Clean S s → Clean S (step S s e)
unfolding step booked
step_clean S s e h k =
    by-pick (Clean S) (is_contract S e.tx)
    (λ q. by-pick (Clean S) (eqb ((counted s e).seen e.tx) (parts S e.tx))
    (λ q'. settled_clean S (counted s e) e.tx (counted_clean S s e h k)) (λ q'. counted_clean S s e h k))
    (λ q. k)

run_clean : (S : Sheet) (s : Book) (l : List Event) → Sound S s → Clean S s → Clean S (run_all S s l)
unfolding run_all
run_clean S s [] h k = k
run_clean S s (e ∷ l) h k = run_clean S (step S s e) l (step_kept S s e h).sound (step_clean S s e h k)

-- a paid contract, cited no more often than it has parts, is cited as often, and never failed
pub paid-all : (S : Sheet) (l : List Event) (y : ℕ) → is_contract S y ≡ true → (run_all S (empty_book S) l).status y ≡ paid
    → event_sum (is_cite y) l ≤ parts S y → (parts S y ≤ event_sum (is_cite y) l) × (event_sum (is_fail y) l ≡ 0)
paid-all S l y c q u =
    let n : (run_all S (empty_book S) l).status y ≢ pending = λ w. paid_ne_open (sym q ∙ w) in
    let a : parts S y ≤ (run_all S (empty_book S) l).seen y = (run_kept S (empty_book S) l (empty-sound S)).sound y n in
    let b : (run_all S (empty_book S) l).seen y ≡ 0 + event_sum (is_cite y) l = run_seen S (empty_book S) l y c in
    let d : (run_all S (empty_book S) l).spoiled y ≡ 0 + event_sum (is_fail y) l = run_spoiled S (empty_book S) l y c in
    let z : (run_all S (empty_book S) l).spoiled y ≡ 0 = run_clean S (empty_book S) l (empty-sound S) (λ x e m. refl) y q (omega arith) in
    (omega arith, omega arith)
