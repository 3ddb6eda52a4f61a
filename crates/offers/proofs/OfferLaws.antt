-- From the answer to what a call leaves: a refused offer leaves everything as it was, an accepted one is taken.
-- Assumes nothing.
use Rattle.std.proofs.Common.{Ok, Err, None, Some}
use Prim.Native.Nat.{◌<◌, ◌≤◌, ℕ}
use borrow.Author.Tests.{eqb-true, le-leb, le-ltb, ltb-false, not-false, not-true}
use lib.Dec.{eqb, leb}
use lib.ListN.{get_or-eq_default, get_or, length, take}
use lib.Seq.{take_all}
use mathlib.Core.Bool.{Bool, false, not, true}
use mathlib.Core.List.{List, []}
use mathlib.Core.Path.{◌∙◌, ◌≡◌, ap, refl, sym}
use native.Mathlib.Decide.{dec_lt}
use native.Mathlib.Omega.{arith}
use Rattle.admission.specs.Citing.{cites_in, values_of, values_with}
use Rattle.frames.proofs.BlockLaws.{block_checked, block-fine}
use Rattle.frames.proofs.HeaderLaws.{HeaderBounds, header_bounds}
use Rattle.frames.proofs.StepLaws.{due_header_ok}
use Rattle.frames.specs.Block.{check_block, cites_of, cut_entry, cut_of}
use Rattle.frames.specs.Block as frames
use Rattle.offers.proofs.FrameLaws.{values-read}
use Rattle.frames.specs.Frame.{body_of, frame_at}
use Rattle.state.proofs.WorkLaws.{beyond-none}
use Rattle.state.specs.Cells.{cells_offered, past_in}
use Rattle.offers.specs.Offering.{Offers, answer_from, reply_of}
use Rattle.state.specs.State.{Kept, cells_of, complete, kept, lengths_of, sheet_of, sizes_of}
use Rattle.acceptance.specs.Taking.{Takeable, Takes}
use Rattle.ordering.specs.Table.{count_in}
use Rattle.plain.proofs.AnswerLaws.{accepted_of, refuse_pass, then_pass}
use Rattle.plain.specs.Answer.{accepted, is_accepted, refused}
use Rattle.plain.specs.Early.{early_answer, early_frame, early_front}
use Rattle.plain.specs.Logs.{Values}
use Rattle.plain.specs.Offers.{Offer, block, block_of, frame, offered, parse, parsed_body, parsed_frame, values, values_in, wrong}
use Rattle.plain.specs.Plain.{answer, block_answer, front_answer, parsed_answer, unused_set, values_answer}
use Rattle.settlement.specs.Tables.{Buffers}
use Rattle.sheets.proofs.SheetCells.{sheet-m}
use Rattle.sheets.specs.Sheet.{Sheet}
use Rattle.sums.proofs.SeqLaws.{get_d_tabulate, tabulate-past}
use Rattle.sums.proofs.TestLaws.{any_to_false, pick-false, pick_true}
use Rattle.sums.specs.Test.{both, pick}
use Rattle.admission.specs.declared.citations.Citations.{Citations}
use Rattle.frames.specs.declared.block.Block.{Block}
use Rattle.frames.specs.Frame.{Framed}
use Rattle.offers.specs.declared.answer.Answer as code
use Rattle.state.specs.declared.ledger.Ledger.{Ledger}
use Rattle.refusals.specs.Refusals.{Checked}
use Rattle.refusals.specs.declared.Refusal.{Refusal}
use Rattle.refusals.specs.declared.Refusal.TheVariants.{KindNotDue}

-- the answer does not look at recorded outcomes
unfoldable pub unjudged : Kept → Kept
unjudged K = kept K.sheet K.ranks K.cuts K.cites []

-- an offer of either kind and the answer to it: what the call leaves
module _ (l : Ledger) (K : Kept) (W : Buffers) (o : Offer) (a : code.Answer) {u : Bool} (q : reply_of a ≡ answer_from l (unjudged K) o) (f : u ≡ is_accepted (reply_of a)) where
  answer_is : reply_of a ≡ answer_from l K o
  unfolding answer_from past_in unjudged
  answer_is = q

  pub not_taken : not u ≡ true → Offers l K W o (record { answer = a; ledger = l }) K W
  unfolding cells_offered
  not_taken h = record {
    answered = answer_is;
    loading = refl;
    sheet = refl;
    cells = sym (pick-false (is_accepted (answer_from l K o)) _ _ (ap is_accepted (sym answer_is) ∙ sym f ∙ not-true u h));
    quiet = λ t. refl;
    beyond = beyond-none (sizes_of l) W;
  }

  module _ (h : not u ≡ false) where
    accepts : accepted ≡ answer_from l K o
    accepts = sym (accepted_of (reply_of a) (sym f ∙ not-false u h)) ∙ answer_is

    taken : {l' : Ledger} {K' : Kept} {W' : Buffers} → K'.sheet ≡ K.sheet → Takes l K W (offered (sheet_of l K) o) l' K' W' → Offers l K W o (record { answer = a; ledger = l' }) K' W'
    unfolding cells_offered
    taken s t = record {
      answered = answer_is;
      loading = t.loading;
      sheet = s;
      cells = t.cells ∙ sym (pick_true (is_accepted (answer_from l K o)) _ _ (ap is_accepted (sym accepts)));
      quiet = λ n. absurd (never (ap is_accepted accepts ∙ n));
      beyond = t.beyond;
    }
      where
        never : true ≡ false → ⊥
        never z = let w : ◌≡◌ {A = ℕ} 0 1 = cc in omega arith

-- before the sheet is complete nothing is accepted
never_3 : (p : ℕ) → refused 3 p ≡ accepted → ⊥
never_3 p z = let w : ◌≡◌ {A = ℕ} 0 1 = cc in omega arith

early-values : (S : Sheet) (lent : List ℕ) (b : Values) → early_answer S (values lent b) ≡ accepted → ⊥
unfolding early_answer early_front
early-values S lent b q = never_3 0 (then_pass _ _ (then_pass _ _ q).1).1

early-frame : (S : Sheet) (lent bytes : List ℕ) (at : ℕ) → early_answer S (frame lent bytes at) ≡ accepted → ⊥
unfolding early_answer early_front
early-frame S lent bytes at q = go (frame_at bytes at) (then_pass _ _ (then_pass _ _ q).1).1
  where
    go : (f : Framed) → early_frame at f ≡ accepted → ⊥
    go (Ok (Some span)) z = never_3 at z
    go (Err r) z = let w : ◌≡◌ {A = ℕ} 0 1 = cc in omega arith
    go (Ok None) z = never_3 at z

-- what is accepted was offered on a complete sheet
module _ (l : Ledger) (K : Kept) (o : Offer) (early : early_answer (sheet_of l K) o ≡ accepted → ⊥) (e : accepted ≡ answer_from l K o) where
  was_complete : complete l ≡ true
  unfolding answer_from
  was_complete = go (complete l) refl
    where
      go : (t : Bool) → complete l ≡ t → t ≡ true
      go true q = refl
      go false q = absurd (early (sym (e ∙ pick-false (complete l) _ _ q)))

  passes-all : answer (sheet_of l K) (past_in (cells_of l K)) o ≡ accepted
  unfolding answer_from
  passes-all = sym (e ∙ pick_true (complete l) _ _ was_complete)

  bounds_of : HeaderBounds l.loading.m l.loading.a l.loading.g l.loading.t
  unfolding complete
  bounds_of = header_bounds _ _ _ _ (due_header_ok l.loading 4 (omega arith) (eqb-true _ 4 was_complete))

module _ (l : Ledger) (K : Kept) (lent : List ℕ) (b : Values) (e : accepted ≡ answer_from l K (values lent b)) where
  passes : answer (sheet_of l K) (past_in (cells_of l K)) (values lent b) ≡ accepted
  passes = passes-all l K (values lent b) (early-values (sheet_of l K) lent b) e

  bounds : HeaderBounds l.loading.m l.loading.a l.loading.g l.loading.t
  bounds = bounds_of l K (values lent b) (early-values (sheet_of l K) lent b) e

  pub few-cites : length b.cites ≤ 32
  unfolding answer front_answer values_answer
  few-cites = ltb-false 32 (length b.cites) (refuse_pass _ 5 0 (then_pass _ _ (then_pass _ _ (then_pass _ _ (then_pass _ _ passes).1).1).0).0)

  -- the entries that no instance has are 0
  unused : length b.cut ≡ 16 → (j : ℕ) → l.loading.m ≤ j → count_in b.cut j ≡ 0
  unfolding answer front_answer values_answer unused_set
  unused long j h = elim (dec_lt j 16) [ yes u ↦ entry u | no u ↦ get_or-eq_default b.cut 0 {n = j} (omega arith) ]
    where
      free : (j < 16) → both (leb (sheet_of l K).m j) (not (eqb (get_or b.cut j 0) 0)) ≡ false
      free u = any_to_false 16 (λ k. both (leb (sheet_of l K).m k) (not (eqb (get_or b.cut k 0) 0))) (refuse_pass _ 5 0 (then_pass _ _ (then_pass _ _ (then_pass _ _ (then_pass _ _ passes).1).1).0).1) j u

      entry : j < 16 → get_or b.cut j 0 ≡ 0
      entry u =
          let t : leb (sheet_of l K).m j ≡ true = le-leb (sheet_of l K).m j (omega (arith, sheet-m K.sheet (sizes_of l))) in
          eqb-true (get_or b.cut j 0) 0 (not-false _ (sym (pick_true (leb (sheet_of l K).m j) (not (eqb (get_or b.cut j 0) 0)) false t) ∙ free u))

  pub takeable : (W : Buffers) → lent ≡ lengths_of K W → length l.heights ≡ 16 → length b.cut ≡ 16 → Takeable l K W b
  unfolding answer
  takeable W el long short = record {
    some = bounds.some-instance;
    few = bounds.instances;
    registers = bounds.registers;
    sixteen = long;
    lent = rw (sym el) (then_pass _ _ (then_pass _ _ passes).1).0;
    unused = unused short;
    admitted = (then_pass _ _ (then_pass _ _ (then_pass _ _ passes).1).1).1;
  }

-- a block's values whose answer accepts: they may be taken, and once they are, the call has done what it promises
module _ (l : Ledger) (K : Kept) (W : Buffers) (B : Block) (cs : List ℕ) (a : code.Answer) {u : Bool}
    (q : reply_of a ≡ answer_from l (unjudged K) (values (lengths_of K W) (values_with B cs))) (f : u ≡ is_accepted (reply_of a)) where
  abbrev o : Offer
  o = values (lengths_of K W) (values_with B cs)

  module _ (go : not u ≡ false) (c : Citations) (held : cites_in c ≡ take 32 cs) where
    ok : accepted ≡ answer_from l K o
    ok = accepts l K W o a q f go

    said : cites_in c ≡ cs
    unfolding values_with
    said = held ∙ take_all 32 cs (few-cites l K (lengths_of K W) (values_with B cs) ok)

    pub may-take : length l.heights ≡ 16 → length B.cut ≡ 16 → Takeable l K W (values_of B c)
    unfolding values_with
    may-take long short = rw said (takeable l K (lengths_of K W) (values_with B cs) ok W refl long short)

    pub was-taken : {l' : Ledger} {K' : Kept} {W' : Buffers} → K'.sheet ≡ K.sheet → Takes l K W (values_of B c) l' K' W' → Offers l K W o (record { answer = a; ledger = l' }) K' W'
    was-taken s t = taken l K W o a q f go s (rw said at t)

-- ---- frames

-- a frame that was accepted is a block's, with a body that is fine
module _ (l : Ledger) (K : Kept) (lent bytes : List ℕ) (at : ℕ) (e : accepted ≡ answer_from l K (frame lent bytes at)) where
  abbrev B : List ℕ
  B = body_of (frame_at bytes at) bytes

  frame_passes : answer (sheet_of l K) (past_in (cells_of l K)) (frame lent bytes at) ≡ accepted
  frame_passes = passes-all l K (frame lent bytes at) (early-frame (sheet_of l K) lent bytes at) e

  parsed_is : (parse (sheet_of l K) bytes at ≡ block (values_in (body_of (frame_at bytes at) bytes) (sheet_of l K).m)) × (check_block (body_of (frame_at bytes at) bytes) at (sheet_of l K).m ≡ Ok tt)
  unfolding answer front_answer parse
  parsed_is = by_frame (frame_at bytes at) (then_pass _ _ (then_pass _ _ (then_pass _ _ frame_passes).1).1).0
    where
      never : (r : Refusal) → parsed_answer (wrong r) ≡ accepted → ⊥
      never r q = let w : ◌≡◌ {A = ℕ} 0 1 = cc in omega arith

      by_check : (c : Checked) → parsed_answer (parsed_body B (sheet_of l K).m c) ≡ accepted → (parsed_body B (sheet_of l K).m c ≡ block (values_in B (sheet_of l K).m)) × (c ≡ Ok tt)
      by_check (Ok _) q = (refl, refl)
      by_check (Err r) q = absurd (never r q)

      by_kind : (k : ℕ) (t : Bool) → not (eqb k 4) ≡ t → parsed_answer (pick t (wrong (KindNotDue at)) (parsed_body B (sheet_of l K).m (check_block B at (sheet_of l K).m))) ≡ accepted
          → (pick t (wrong (KindNotDue at)) (parsed_body B (sheet_of l K).m (check_block B at (sheet_of l K).m)) ≡ block (values_in B (sheet_of l K).m)) × (check_block B at (sheet_of l K).m ≡ Ok tt)
      by_kind k true z q = absurd (never (KindNotDue at) (ap parsed_answer (sym (pick_true true (wrong (KindNotDue at)) _ refl)) ∙ q))
      by_kind k false z q =
          let p = pick-false false (wrong (KindNotDue at)) (parsed_body B (sheet_of l K).m (check_block B at (sheet_of l K).m)) refl in
          let w = by_check (check_block B at (sheet_of l K).m) (ap parsed_answer (sym p) ∙ q) in
          (p ∙ w.0, w.1)

      by_frame : (f : Framed) → parsed_answer (parsed_frame (sheet_of l K).m B at f) ≡ accepted
          → (parsed_frame (sheet_of l K).m B at f ≡ block (values_in B (sheet_of l K).m)) × (check_block B at (sheet_of l K).m ≡ Ok tt)
      by_frame (Ok (Some span)) q = by_kind span.kind (not (eqb span.kind 4)) refl q
      by_frame (Err r) q = absurd (never r q)
      by_frame (Ok None) q = absurd (never (KindNotDue at) q)

  m_is : (sheet_of l K).m ≡ l.loading.m
  m_is = sheet-m K.sheet (sizes_of l)

  -- the block that the frame offers
  pub frame-offers : offered (sheet_of l K) (frame lent bytes at) ≡ values_in (body_of (frame_at bytes at) bytes) l.loading.m
  frame-offers = ap block_of parsed_is.0 ∙ ap (values_in (body_of (frame_at bytes at) bytes)) m_is

  pub frame_fine : check_block (body_of (frame_at bytes at) bytes) 0 l.loading.m ≡ Ok tt
  frame_fine =
      let c = block_checked (body_of (frame_at bytes at) bytes) at l.loading.m (ap (check_block (body_of (frame_at bytes at) bytes) at) (sym m_is) ∙ parsed_is.1) in
      block-fine (body_of (frame_at bytes at) bytes) 0 l.loading.m c.fixed c.long c.few

  pub frame_takeable : (W : Buffers) → lent ≡ lengths_of K W → length l.heights ≡ 16 → Takeable l K W (values_in (body_of (frame_at bytes at) bytes) l.loading.m)
  unfolding answer cut_of
  frame_takeable W el long =
      let h = bounds_of l K (frame lent bytes at) (early-frame (sheet_of l K) lent bytes at) e in
      record {
        some = h.some-instance;
        few = h.instances;
        registers = h.registers;
        sixteen = long;
        lent = rw (sym el) (then_pass _ _ (then_pass _ _ frame_passes).1).0;
        unused = λ j u. elim (dec_lt j 16) [
          | yes w ↦ get_d_tabulate 16 (cut_entry (body_of (frame_at bytes at) bytes) l.loading.m) j 0 w ∙ pick-false _ _ _ (le-ltb j l.loading.m u)
          | no w ↦ tabulate-past 16 (cut_entry (body_of (frame_at bytes at) bytes) l.loading.m) j 0 (omega arith)
        ];
        admitted = ap (block_answer (sheet_of l K) (past_in (cells_of l K))) (sym frame-offers) ∙ (then_pass _ _ (then_pass _ _ (then_pass _ _ frame_passes).1).1).1;
      }

-- a frame whose answer accepts, and the block that the code reads from its body
module _ (l : Ledger) (K : Kept) (W : Buffers) (bytes : List ℕ) (at : ℕ) (a : code.Answer) {u : Bool}
    (q : reply_of a ≡ answer_from l (unjudged K) (frame (lengths_of K W) bytes at)) (f : u ≡ is_accepted (reply_of a)) where
  abbrev o' : Offer
  o' = frame (lengths_of K W) bytes at

  module _ (go : not u ≡ false) (b : List ℕ) (B : Block) (c : Citations) (eq : b ≡ body_of (frame_at bytes at) bytes) (eb : B ≡ frames.block_of b l.loading.m) (ec : cites_in c ≡ take 32 (cites_of b l.loading.m)) where
    ok' : accepted ≡ answer_from l K o'
    ok' = accepts l K W o' a q f go

    read_is : values_of B c ≡ values_in (body_of (frame_at bytes at) bytes) l.loading.m
    read_is = values-read (body_of (frame_at bytes at) bytes) 0 l.loading.m B c (frame_fine l K (lengths_of K W) bytes at ok') (rw eq at eb) (rw eq at ec)

    pub frame-may-take : length l.heights ≡ 16 → Takeable l K W (values_of B c)
    frame-may-take long = rw read_is (frame_takeable l K (lengths_of K W) bytes at ok' W refl long)

    pub frame-was-taken : {l' : Ledger} {K' : Kept} {W' : Buffers} → K'.sheet ≡ K.sheet → Takes l K W (values_of B c) l' K' W' → Offers l K W o' (record { answer = a; ledger = l' }) K' W'
    frame-was-taken s t = taken l K W o' a q f go s (rw (read_is, ← frame-offers l K (lengths_of K W) bytes at ok') at t)
