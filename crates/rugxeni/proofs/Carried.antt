-- What a call of the boundary writes as numbers is the ledger that it returned.
-- Assumes nothing.
use Rattle.std.proofs.Common.{Ok, Err, Some, None}
use Prim.Native.Nat.{◌+◌, ◌-◌, ◌<◌, ◌≤◌, min, ℕ}
use lib.Dec.{eqb, ltb}
use lib.ListN.{get_or-append, get_or, get_or-replicate, length, replicate}
use lib.Seq.{get_or-take}
use mathlib.Core.Bool.{Bool, false, true}
use mathlib.Core.List.{List}
use mathlib.Core.Path.{◌∙◌, ◌≡◌, ap, refl, sym}
use native.Mathlib.Omega.{arith}
use Rattle.demand.proofs.Lengths.{offered_lengths}
use Rattle.demand.proofs.Replies.{refused_same}
use Rattle.demand.specs.Chain.{SameFront}
use Rattle.frames.proofs.StepLaws.{took_judged}
use Rattle.frames.specs.Step.{header_loaded, loading_after}
use Rattle.frames.specs.declared.step.Loading.{Loading}
use Rattle.frames.specs.Step.{Step}
use Rattle.frames_load.proofs.LoadLaws.{took_it}
use Rattle.frames_load.specs.Load.{LoadStep}
use Rattle.offers.specs.Offering.{answer_from, reply_of}
use Rattle.plain.specs.Answer.{is_accepted}
use Rattle.plain.specs.Offers as offers
use Rattle.plain.specs.Offers.{Offer}
use Rattle.rugxeni.proofs.NumberLaws.{ledger_made, number_late}
use Rattle.rugxeni.specs.Boundary.{LoadCall, OfferCall}
use Rattle.rugxeni.specs.Numbers.{is_taken, ledger_in, numbers_of, size}
use Rattle.settlement.specs.Tables.{Buffers}
use Rattle.state.specs.Cells.{Cells}
use Rattle.state.specs.Loading.{LoadsSheet, after_step}
use Rattle.state.specs.State.{Kept, cells_of, complete, fresh_ledger, sheet_of}
use Rattle.state.specs.declared.ledger.Ledger.{Ledger}
use Rattle.state.specs.declared.load.Loaded.{Loaded}
use Rattle.sums.proofs.SeqLaws.{fill-room, length-fill, length-tabulate, tabulate_ext, tabulate_is}
use Rattle.sums.proofs.TestLaws.{by-pick}
use Rattle.sums.specs.Seq.{fill}
use Rattle.sums.specs.Test.{pick}

-- ---- numbers and the ledger that they say

read-heights : (n : List ℕ) → length (ledger_in n).heights ≡ 16
unfolding ledger_in
read-heights n = length-tabulate 16 _

read_stage : (n : List ℕ) → (ledger_in n).loading.stage ≤ 255
unfolding ledger_in
read_stage n = omega arith

-- the first 22 alone count
pub front-ledger : (n n' : List ℕ) → SameFront size n' n → ledger_in n' ≡ ledger_in n
unfolding ledger_in
front-ledger n n' e =
    let at : (i : ℕ) → i < 22 → get_or n' i 0 ≡ get_or n i 0 = λ i h. sym (get_or-take 22 n' i 0 h) ∙ ap (λ (l : List ℕ). get_or l i 0) e ∙ get_or-take 22 n i 0 h in
    let heights = tabulate_ext 16 (λ j. get_or n' (6 + j) 0) (λ j. get_or n (6 + j) 0) (λ j h. at (6 + j) (omega arith)) in
    rw (at 0 (omega arith), at 1 (omega arith), at 2 (omega arith), at 3 (omega arith), at 4 (omega arith), at 5 (omega arith), heights) refl

fresh-read : ledger_in (replicate 22 0) ≡ fresh_ledger
unfolding ledger_in
fresh-read =
    let heights = tabulate_is {A = ℕ} (replicate 16 0) 16 (λ j. get_or (replicate 22 0) (6 + j) 0) 0 refl (λ j h. get_or-replicate 22 (6 + j) 0 0 (omega arith) ∙ sym (get_or-replicate 16 j 0 0 h)) in
    rw heights refl

pub fresh-numbers : (n : List ℕ) → SameFront size n (replicate size 0) → ledger_in n ≡ fresh_ledger
fresh-numbers n e = front-ledger (replicate 22 0) n e ∙ fresh-read

-- what was written is read back
module _ (l : Ledger) (n : List ℕ) (sixteen : length l.heights ≡ 16) (enough : size ≤ length n) where
  number-back : (i : ℕ) → i < 22 → get_or (fill (numbers_of l) n) i 0 ≡ get_or (numbers_of l) i 0
  number-back i h = ap (λ (x : List ℕ). get_or x i 0) (fill-room (numbers_of l) n (omega arith)) ∙ get_or-append (numbers_of l) _ 0 i (omega arith)

  heights-back : l.heights ≡ (ledger_in (fill (numbers_of l) n)).heights
  unfolding ledger_in
  heights-back = sym (tabulate_is l.heights 16 (λ j. get_or (fill (numbers_of l) n) (6 + j) 0) 0 sixteen
      (λ j u. number-back (6 + j) (omega arith) ∙ sym (number_late l (6 + j) (get_or l.heights j 0) (omega arith) (let q : j ≡ 6 + j - 6 = omega arith in ap (λ (k : ℕ). get_or l.heights k 0) q))))

  numbers-back : l.loading.stage ≤ 255 → ledger_in (fill (numbers_of l) n) ≡ l
  numbers-back low =
      let at = number-back in
      let stage : l.loading.stage ≡ min (get_or (fill (numbers_of l) n) 4 0) 255 = omega (arith, at 4 (omega arith)) in
      sym (ledger_made (fill (numbers_of l) n) _ _ _ _ _ _ l.heights (sym (at 0 (omega arith))) (sym (at 1 (omega arith))) (sym (at 2 (omega arith))) (sym (at 3 (omega arith)))
      stage (sym (at 5 (omega arith))) heights-back)

-- the numbers afterwards are enough and say the ledger l
abbrev pub Carries : List ℕ → Ledger → Type 0
Carries n l = (size ≤ length n) × (ledger_in n ≡ l)

carried : (n n' : List ℕ) (l : Ledger) (b : Bool) → n' ≡ pick b (fill (numbers_of l) n) n → size ≤ length n → length l.heights ≡ 16 → l.loading.stage ≤ 255
    → (b ≡ false → l ≡ ledger_in n) → Carries n' l
unfolding pick
carried n n' l true k h e s f = (omega (arith, ap length k ∙ length-fill (numbers_of l) n), ap ledger_in k ∙ numbers-back l n e h s)
carried n n' l false k h e s f = (omega (arith, ap length k), ap ledger_in k ∙ sym (f refl))

-- ---- an offer

pub offer_carried : (n : List ℕ) (K : Kept) (W : Buffers) (o : Offer) (told : List ℕ) (code : ℕ) (n' : List ℕ) (K' : Kept) (W' : Buffers) (told' : List ℕ)
    → (h : size ≤ length n) (c : OfferCall n K W o told code n' K' W' told') → Carries n' (c.offers h).0.ledger
offer_carried n K W o told code n' K' W' told' h c =
    let (r, p, k, s) = c.offers h in
    let long : length r.ledger.heights ≡ 16 =
    ap (λ (C : Cells). length C.heights) p.cells
    ∙ (offered_lengths (sheet_of (ledger_in n) K) (answer_from (ledger_in n) K o) (offers.offered (sheet_of (ledger_in n) K) o) (cells_of (ledger_in n) K)).heights
    ∙ read-heights n in
    let low : r.ledger.loading.stage ≤ 255 = rw p.loading (read_stage n) in
    carried n n' r.ledger (is_accepted (reply_of r.answer)) k h long low (λ e. refused_same (ledger_in n) K W o r K' W' p (ap is_accepted (sym p.answered) ∙ e))

-- ---- loading

after_stage : (s : Loading) (kind : ℕ) (b : List ℕ) → s.stage ≤ 255 → (loading_after s kind b).stage ≤ 255
unfolding loading_after header_loaded
after_stage s kind b h =
    by-pick (λ (t : Loading). t.stage ≤ 255) (eqb kind 1) (λ e. omega arith)
    (λ e. by-pick (λ (t : Loading). t.stage ≤ 255) (eqb kind 2) (λ e. omega arith)
    (λ e. by-pick (λ (t : Loading). t.stage ≤ 255) (eqb kind 3) (λ e. by-pick (λ (t : Loading). t.stage ≤ 255) (ltb s.loaded s.t) (λ e. omega arith) (λ e. h)) (λ e. h)))

-- what a call that loads leaves of a ledger
record Left (l : Ledger) (r : Loaded) : Type 0 where
  long : length r.ledger.heights ≡ length l.heights
  low : l.loading.stage ≤ 255 → r.ledger.loading.stage ≤ 255
  same : is_taken r.answer ≡ false → r.ledger ≡ l

by_step : (l : Ledger) (run : List ℕ) (at : ℕ) (before after : List ℕ) (t : Step) → LoadStep run at l.loading before after t → Left l (after_step l t)
by_step l run at before after (Ok (Some (next, end))) L = record {
  long = refl;
  low = λ h. rw (took_judged l.loading run at next end (took_it run at l.loading before after next end L.bytes).step).1 (after_stage l.loading _ _ h);
  same = λ e. absurd (let z : ◌≡◌ {A = ℕ} 0 1 = cc in omega arith);
}
by_step l run at before after (Err x) L = record { long = refl; low = λ h. h; same = λ e. refl }
by_step l run at before after (Ok None) L = record { long = refl; low = λ h. h; same = λ e. refl }

load-left : (l : Ledger) (run : List ℕ) (at : ℕ) (before after : List ℕ) (r : Loaded) → LoadsSheet l run at before after r → Left l r
load-left l run at before after r p = go (complete l) refl
  where
    go : (b : Bool) → complete l ≡ b → Left l r
    go true e = rw (p.whole e).0 (record { long = refl; low = λ h. h; same = λ e. refl })
    go false e = let (t, L, q) = p.loads e in rw q (by_step l run at before after t L)

pub load_carried : (n run : List ℕ) (at : ℕ) (sheet told : List ℕ) (code : ℕ) (n' sheet' told' : List ℕ)
    → (h : size ≤ length n) (c : LoadCall n run at sheet told code n' sheet' told') → Carries n' (c.loads h).0.ledger
load_carried n run at sheet told code n' sheet' told' h c =
    let (r, p, k, s) = c.loads h in
    let f = load-left (ledger_in n) run at sheet sheet' r p in
    carried n n' r.ledger (is_taken r.answer) k h (f.long ∙ read-heights n) (f.low (read_stage n)) f.same
