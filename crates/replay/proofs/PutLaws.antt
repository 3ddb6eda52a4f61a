-- The blocks of a run, offered one after the other: each turn of the loop follows the definition.
-- Assumes nothing.
use Prim.Native.Nat.{◌+◌, ◌-◌, ◌<◌, ◌≤◌, suc, ℕ}
use borrow.Author.Tests.{le-leb, leb-false, lt-leb}
use lib.Dec.{leb}
use lib.ListN.{length}
use mathlib.Core.Bool.{Bool, false, true}
use mathlib.Core.List.{List, [], ◌++◌, append_assoc, append-nil}
use mathlib.Core.Path.{◌∙◌, ◌≡◌, ap, ap₂, refl, subst, sym}
use native.Mathlib.Omega.{arith}
use Rattle.frames.specs.Frame.{body_at, frame_at}
use Rattle.frames.specs.declared.step.Loading.{Loading}
use Rattle.offers.specs.Offering.{Offers, answer_from, reply_of}
use Rattle.offers.specs.declared.answer.Offered.{Offered}
use Rattle.plain.specs.Answer.{Answer, is_accepted}
use Rattle.plain.specs.Offers.{frame, values_in}
use Rattle.replay.specs.Inner.{Course, PutsBlocks, behind, cells_after, course_from, course_of, kept_with, ledger_with, line_at, stopped, stops_at}
use Rattle.replay.specs.Reading.{answer_line, end_of}
use Rattle.settlement.specs.Tables.{Buffers}
use Rattle.sheets.specs.declared.sheet.Sizes.{Sizes}
use Rattle.state.specs.Cells.{Cells}
use Rattle.state.specs.State.{Beyond, Kept, kept, lengths_of, sizes_of}
use Rattle.state.specs.declared.ledger.Ledger.{Ledger}
use Rattle.sums.proofs.TestLaws.{pick-false, pick_true}
use Rattle.sums.specs.Test.{pick}
use Rattle.text.proofs.WroteLaws.{wrote_as, wrote_none, wrote_then}
use Rattle.text.specs.Wrote.{Wrote}

-- ---- lengths

-- the same lengths
pub record Sized (K K' : Kept) (W W' : Buffers) (out out' : List ℕ) : Type 0 where
  pub ranks : length K'.ranks ≡ length K.ranks
  pub cuts : length K'.cuts ≡ length K.cuts
  pub cites : length K'.cites ≡ length K.cites
  pub good : length K'.good ≡ length K.good
  pub counts : length W'.counts ≡ length W.counts
  pub table : length W'.table ≡ length W.table
  pub order : length W'.order ≡ length W.order
  pub text : length out' ≡ length out

sized_then : {K K' K'' : Kept} {W W' W'' : Buffers} {o o' o'' : List ℕ} → Sized K K' W W' o o' → Sized K' K'' W' W'' o' o'' → Sized K K'' W W'' o o''
sized_then a b = record {
  ranks = b.ranks ∙ a.ranks;
  cuts = b.cuts ∙ a.cuts;
  cites = b.cites ∙ a.cites;
  good = b.good ∙ a.good;
  counts = b.counts ∙ a.counts;
  table = b.table ∙ a.table;
  order = b.order ∙ a.order;
  text = b.text ∙ a.text;
}

sized_lent : {K K' : Kept} {W W' : Buffers} {o o' : List ℕ} → K'.sheet ≡ K.sheet → Sized K K' W W' o o' → lengths_of K' W' ≡ lengths_of K W
sized_lent e s = rw (e, s.ranks, s.cuts, s.cites, s.good, s.counts, s.table, s.order) refl

-- ---- what was done so far, with the lines so far, and whether a block was accepted

pub record SoFar (l₀ : Ledger) (K₀ : Kept) (W₀ : Buffers) (out₀ : List ℕ) (place₀ : ℕ) (l : Ledger) (K : Kept) (W : Buffers) (out : List ℕ) (place : ℕ) (text : List ℕ) (took : Bool) : Type 0 where
  pub loading : l.loading ≡ l₀.loading
  pub sheet : K.sheet ≡ K₀.sheet
  pub beyond : Beyond (sizes_of l₀) W₀ W
  pub quiet : took ≡ false → W ≡ W₀
  pub wrote : Wrote out₀ place₀ text out place

no_further : (l : Ledger) (W : Buffers) → Beyond (sizes_of l) W W
no_further l W = record { counts = refl; table = refl; order = refl; counts-length = refl; table-length = refl; order-length = refl }

neither : (s t : Bool) → pick s true t ≡ false → (s ≡ false) × (t ≡ false)
unfolding pick
neither true t e = absurd (let z : ◌≡◌ {A = ℕ} 0 1 = cc in omega arith)
neither false t e = (refl, e)

module _ {l₀ : Ledger} {K₀ : Kept} {W₀ : Buffers} {out₀ : List ℕ} {place₀ : ℕ} {l : Ledger} {K : Kept} {W : Buffers} {out : List ℕ} {place : ℕ} {text : List ℕ} {took : Bool}
    (s : SoFar l₀ K₀ W₀ out₀ place₀ l K W out place text took) (run : List ℕ) (at : ℕ) where
  -- nothing more is offered
  so_done : (b : Bool) → behind text took (stopped l K b) ≡ course_of run at l₀ K₀ W₀ → PutsBlocks run at l₀ K₀ W₀ out₀ place₀ (record { ledger = l; place = place; ended = b }) K W out
  so_done b e = record {
    ledger = ap (λ (c : Course). c.ledger) e;
    kept = ap (λ (c : Course). c.kept) e;
    ended = ap (λ (c : Course). c.ended) e;
    text = wrote_as (sym (append-nil text) ∙ ap (λ (c : Course). c.text) e) s.wrote;
    quiet = λ q. s.quiet (neither took false (ap (λ (c : Course). c.accepted) e ∙ q)).0;
    beyond = s.beyond;
  }

-- ---- one offer more

further : {z : Sizes} {W W' W'' : Buffers} → Beyond z W W' → Beyond z W' W'' → Beyond z W W''
further a b = record {
  counts = b.counts ∙ a.counts;
  table = b.table ∙ a.table;
  order = b.order ∙ a.order;
  counts-length = b.counts-length ∙ a.counts-length;
  table-length = b.table-length ∙ a.table-length;
  order-length = b.order-length ∙ a.order-length;
}

abbrev ledger : Loading → List ℕ → Ledger
ledger s heights = record { loading = s; heights = heights }

abbrev course : Ledger → Kept → List ℕ → Bool → Bool → Course
course l K text ended took = record { ledger = l; kept = K; text = text; ended = ended; accepted = took }

or_or : (s t u : Bool) → pick s true (pick t true u) ≡ pick (pick s true t) true u
unfolding pick
or_or true t u = refl
or_or false t u = refl

behind_twice : (t t' : List ℕ) (b b' : Bool) (c : Course) → behind t b (behind t' b' c) ≡ behind (t ++ t') (pick b true b') c
behind_twice t t' b b' c = ap₂ (λ (x : List ℕ) (y : Bool). course c.ledger c.kept x c.ended y) (sym (append_assoc t t' c.text)) (or_or b b' c.accepted)

module _ {l : Ledger} {K : Kept} {W : Buffers} {lent run : List ℕ} {offset : ℕ} {r : Offered} {K' : Kept} {W' : Buffers} (p : Offers l K W (frame lent run offset) r K' W') where
  line_is : line_at run offset r.ledger (reply_of r.answer) ≡ line_at run offset l (answer_from l K (frame lent run offset))
  line_is = ap₂ (λ (s : Loading) (a : Answer). answer_line (values_in (body_at run offset) s.m) a) p.loading p.answered

  so_more : {l₀ : Ledger} {K₀ : Kept} {W₀ : Buffers} {out₀ : List ℕ} {place₀ : ℕ} {out : List ℕ} {place : ℕ} {text : List ℕ} {took : Bool} {out' : List ℕ} {place' : ℕ}
      → SoFar l₀ K₀ W₀ out₀ place₀ l K W out place text took → Wrote out place (line_at run offset r.ledger (reply_of r.answer)) out' place'
      → SoFar l₀ K₀ W₀ out₀ place₀ r.ledger K' W' out' place' (text ++ line_at run offset l (answer_from l K (frame lent run offset)))
      (pick took true (is_accepted (answer_from l K (frame lent run offset))))
  so_more {text = text} {took = took} s w = record {
    loading = p.loading ∙ s.loading;
    sheet = p.sheet ∙ s.sheet;
    beyond = further s.beyond (rw s.loading at p.beyond);
    quiet = λ q. let (e, f) = neither took _ q in p.quiet f ∙ s.quiet e;
    wrote = wrote_as (ap (λ (x : List ℕ). text ++ x) line_is) (wrote_then s.wrote w);
  }

  module _ (text : List ℕ) (took : Bool) (fuel : ℕ) (more : offset < length run) where
    -- the rest of the course, whether it stops here or goes on
    rest : Bool → Course
    rest b = pick b (stopped r.ledger K' true) (course_from fuel lent run (end_of (frame_at run offset) offset) r.ledger K')

    course-more : behind text took (course_from (suc fuel) lent run offset l K)
        ≡ behind (text ++ line_at run offset l (answer_from l K (frame lent run offset))) (pick took true (is_accepted (answer_from l K (frame lent run offset))))
        (rest (stops_at (reply_of r.answer) offset (end_of (frame_at run offset) offset)))
    unfolding rest course_from cells_after
    course-more =
        let l' : r.ledger ≡ ledger_with l (cells_after l K (frame lent run offset)) = ap₂ ledger p.loading (ap (λ (C : Cells). C.heights) p.cells) in
        let K' : K' ≡ kept_with K (cells_after l K (frame lent run offset)) = ap₂ (λ (x : List ℕ) (C : Cells). kept x C.ranks C.cuts C.cites C.good) p.sheet p.cells in
        rw (l', K', p.answered) (ap (behind text took) (pick-false (leb (length run) offset) _ _ (lt-leb (length run) offset more)) ∙ behind_twice text _ took _ _)

-- ---- one turn of the loop

pub record Turn (run : List ℕ) (at : ℕ) (l₀ : Ledger) (K₀ : Kept) (W₀ : Buffers) (out₀ : List ℕ) (place₀ offset : ℕ) (l : Ledger) (K : Kept) (W : Buffers) (out : List ℕ) (place : ℕ) : Type 0 where
  pub sized : Sized K₀ K W₀ W out₀ out
  pub text : List ℕ
  pub took : Bool
  pub so_far : SoFar l₀ K₀ W₀ out₀ place₀ l K W out place text took
  pub fuel : ℕ
  pub enough : length run ≤ offset + fuel
  pub course : behind text took (course_from (suc fuel) (lengths_of K₀ W₀) run offset l K) ≡ course_of run at l₀ K₀ W₀

pub turn_first : {run : List ℕ} {at : ℕ} {l : Ledger} {K : Kept} {W : Buffers} {out : List ℕ} {place : ℕ} → Turn run at l K W out place at l K W out place
unfolding pick
turn_first {run} {at} {l} {K} {W} {out} {place} = record {
  sized = record { ranks = refl; cuts = refl; cites = refl; good = refl; counts = refl; table = refl; order = refl; text = refl };
  text = [];
  took = false;
  so_far = record { loading = refl; sheet = refl; beyond = no_further l W; quiet = λ e. refl; wrote = wrote_none out place };
  fuel = length run;
  enough = omega arith;
  course = refl;
}

module _ {run : List ℕ} {at : ℕ} {l₀ : Ledger} {K₀ : Kept} {W₀ : Buffers} {out₀ : List ℕ} {place₀ offset : ℕ} {l : Ledger} {K : Kept} {W : Buffers} {out : List ℕ} {place : ℕ}
    (T : Turn run at l₀ K₀ W₀ out₀ place₀ offset l K W out place) where
  -- no byte is left
  pub turn_end : length run ≤ offset → PutsBlocks run at l₀ K₀ W₀ out₀ place₀ (record { ledger = l; place = place; ended = false }) K W out
  unfolding course_from
  turn_end h = so_done T.so_far run at false (ap (behind T.text T.took) (sym (pick_true (leb (length run) offset) _ _ (le-leb (length run) offset h))) ∙ T.course)

  module _ {W' : Buffers} {r : Offered} {K' : Kept} {out' : List ℕ} {place' : ℕ} (more : offset < length run) (p : Offers l K W (frame (lengths_of K W) run offset) r K' W')
      (w : Wrote out place (line_at run offset r.ledger (reply_of r.answer)) out' place') {end : ℕ} (e : end ≡ end_of (frame_at run offset) offset) where
    q : Offers l K W (frame (lengths_of K₀ W₀) run offset) r K' W'
    q = subst (λ (lent : List ℕ). Offers l K W (frame lent run offset) r K' W') (sized_lent T.so_far.sheet T.sized) p

    abbrev text' : List ℕ
    text' = T.text ++ line_at run offset l (answer_from l K (frame (lengths_of K₀ W₀) run offset))

    abbrev took' : Bool
    took' = pick T.took true (is_accepted (answer_from l K (frame (lengths_of K₀ W₀) run offset)))

    pub turn-ends : stops_at (reply_of r.answer) offset end ≡ true → PutsBlocks run at l₀ K₀ W₀ out₀ place₀ (record { ledger = r.ledger; place = place'; ended = true }) K' W' out'
    unfolding rest
    turn-ends t = so_done (so_more q T.so_far w) run at true (ap (behind text' took') (sym (pick_true _ _ _ (rw e at t))) ∙ sym (course-more q T.text T.took T.fuel more) ∙ T.course)

    module _ (f : stops_at (reply_of r.answer) offset end ≡ false) where
      forward : offset < end
      unfolding stops_at
      forward = leb-false end offset (neither _ _ f).1

      pub turn-less : length run - end < length run - offset
      turn-less = omega (arith, forward)

      pub turn-next : Sized K K' W W' out out' → Turn run at l₀ K₀ W₀ out₀ place₀ end r.ledger K' W' out' place'
      unfolding rest
      turn-next s =
          let n : T.fuel ≡ suc (T.fuel - 1) = omega (arith, T.enough) in
          record {
            sized = sized_then T.sized s;
            text = text';
            took = took';
            so_far = so_more q T.so_far w;
            fuel = T.fuel - 1;
            enough = omega (arith, T.enough, forward);
            course = rw (sym n, e) (ap (behind text' took') (sym (pick-false _ _ _ (rw e at f))) ∙ sym (course-more q T.text T.took T.fuel more) ∙ T.course);
          }
