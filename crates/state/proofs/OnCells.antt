-- Cells that an offer leaves as `cells_offered` says stand for an engine that keeps to its contract.
-- Assumes nothing.
use Prim.Native.Nat.{◌*◌, ◌+◌, ◌-◌, ◌/◌, ◌<◌, ◌≤◌, min, ℕ}
use lib.ListN.{length}
use mathlib.Core.Logic.{◌≢◌}
use mathlib.Core.Path.{◌∙◌, ◌≡◌, ap, refl, subst, sym}
use native.Mathlib.Decide.{ℕ_discrete}
use native.Mathlib.Omega.{arith}
use Rattle.escrow.proofs.Outcomes.{view_of_other}
use Rattle.escrow.specs.Cells.{history_in}
use Rattle.escrow.specs.Outcome.{Citation, History, InLogs, citation, judge, view_of}
use Rattle.plain.proofs.Admits.{Admits, admitted}
use Rattle.plain.proofs.AnswerLaws.{accepted_of}
use Rattle.plain.proofs.Follow.{block-accepted}
use Rattle.state.proofs.Judging.{judging_new, judging_old, judging_past}
use Rattle.state.proofs.Grows.{heights-most, store_grown}
use Rattle.plain.specs.Answer.{accepted, is_accepted}
use Rattle.state.specs.Cells.{cells_offered, Cells, heights_in, past_in, stored_in, taken_in}
use Rattle.plain.proofs.Engine.{Answered, Grown, Taken}
use Rattle.plain.specs.Plain.{answer, last_rank}
use Rattle.ordering.proofs.Usable.{climb_zero}
use Rattle.ordering.specs.Order.{last_of}
use Rattle.ordering.specs.Table.{climb, count_in, rank_in}
use Rattle.sums.proofs.TestLaws.{pick-false, pick_true}
use Rattle.state.proofs.Engine.{Roomy, engine_in}
use Rattle.plain.specs.Offers.{Offer, offered}
use Rattle.sheets.proofs.ProperLaws.{ProperSheet}
use Rattle.sheets.specs.Sheet.{Sheet}

-- the last rank, as the table of ranks has it
pub last_in : (C : Cells) (i : ℕ) → last_rank (engine_in C).past i ≡ last_of (rank_in C.ranks i) (heights_in C i)
unfolding last_rank past_in history_in
last_in C i = refl

height_in : (C : Cells) (j : ℕ) → (engine_in C).past.height j ≡ heights_in C j
unfolding past_in history_in
height_in C j = refl

height_small : (C : Cells) (j : ℕ) → (engine_in C).past.height j ≤ 128
height_small C j = rw (height_in C j) (heights-most C j)

module _ (S : Sheet) (Q : ProperSheet S) (C : Cells) (room : Roomy S.m C) (o : Offer) (e : answer S (past_in C) o ≡ accepted) where
  A : Admits S (engine_in C).past (offered S o)
  A = admitted S (engine_in C).past (offered S o) (block-accepted S (engine_in C).past o e)

  space : heights_in C (offered S o).instance < 128
  space = omega (arith, A.room, height_in C (offered S o).instance)

  G : Grown S.m (offered S o) (engine_in C).past (engine_in (stored_in (offered S o) C)).past
  G = store_grown S.m Q.small C room (offered S o) A.there space (omega (arith, A.above, last_in C (offered S o).instance))

  good-room : 4096 * S.m ≤ length (stored_in (offered S o) C).good
  unfolding stored_in
  good-room = room.good

  -- the new block's cut entries are at most 128, so its views lie in the cells of their instances
  bound : (q j : ℕ) → q < 32 → j < S.m → j ≢ (offered S o).instance
      → view_of (engine_in (stored_in (offered S o) C)).past (offered S o).instance (heights_in C (offered S o).instance * 32 + q) j ≤ 4096
  bound q j l u n =
      let k : (heights_in C (offered S o).instance * 32 + q) / 32 ≡ (engine_in C).past.height (offered S o).instance = omega (arith, height_in C (offered S o).instance) in
      omega (
        arith,
        view_of_other (engine_in (stored_in (offered S o) C)).past (offered S o).instance (heights_in C (offered S o).instance * 32 + q) j n,
        ap (λ (n : ℕ). (engine_in (stored_in (offered S o) C)).past.entry (offered S o).instance n j) k,
        G.new_entry j u,
        A.cut_in j u,
        height_small C j,
      )

  -- a new place is one of the 32 of the new block
  new_place : (c : Citation) → InLogs S (engine_in (stored_in (offered S o) C)).past c → (engine_in C).past.height c.instance * 32 ≤ c.position
      → (q : ℕ) × (q < 32) × (c ≡ citation (offered S o).instance (heights_in C (offered S o).instance * 32 + q))
  new_place c w h = elim (ℕ_discrete c.instance (offered S o).instance) [
    | yes z ↦
        let m : (engine_in (stored_in (offered S o) C)).past.height c.instance ≡ (engine_in C).past.height c.instance + 1 = ap (engine_in (stored_in (offered S o) C)).past.height z ∙ G.more ∙ ap (λ (j : ℕ). (engine_in C).past.height j + 1) (sym z) in
        let k : (engine_in C).past.height c.instance ≡ heights_in C (offered S o).instance = ap (engine_in C).past.height z ∙ height_in C (offered S o).instance in
        let p : c.position ≡ heights_in C (offered S o).instance * 32 + (c.position - heights_in C (offered S o).instance * 32) = omega arith in
        (c.position - heights_in C (offered S o).instance * 32, omega (arith, w.1), λ t. citation (z t) (p t))
    | no z ↦ absurd (omega (arith, w.1, G.others c.instance w.0 z))
  ]

  past-taken : (engine_in (taken_in S (offered S o) C)).past ≡ (engine_in (stored_in (offered S o) C)).past
  unfolding taken_in
  past-taken = judging_past S Q.some (stored_in (offered S o) C) (offered S o).instance (heights_in C (offered S o).instance) A.there space good-room bound

  flag_stored : (c : Citation) → (engine_in (stored_in (offered S o) C)).flag c ≡ (engine_in C).flag c
  unfolding past_in stored_in
  flag_stored c = refl

  old_flags : (c : Citation) → InLogs S (engine_in C).past c → (engine_in (taken_in S (offered S o) C)).flag c ≡ (engine_in C).flag c
  unfolding taken_in
  old_flags c w =
      judging_old S Q.some (stored_in (offered S o) C) (offered S o).instance (heights_in C (offered S o).instance) A.there space good-room bound
      c.instance c.position (omega (arith, w.1, height_small C c.instance))
      (λ z. omega (arith, w.1, ap (engine_in C).past.height z, height_in C (offered S o).instance))
      ∙ flag_stored c

  new_flags : (c : Citation) → InLogs S (engine_in (taken_in S (offered S o) C)).past c → (engine_in C).past.height c.instance * 32 ≤ c.position
      → (engine_in (taken_in S (offered S o) C)).flag c ≡ judge S (engine_in (taken_in S (offered S o) C)).past (engine_in (taken_in S (offered S o) C)).flag c
  new_flags c w h =
      let (q, l, z) = new_place c (subst (λ (H : History). InLogs S H c) past-taken w) h in
      subst (λ (c : Citation). (engine_in (taken_in S (offered S o) C)).flag c ≡ judge S (engine_in (taken_in S (offered S o) C)).past (engine_in (taken_in S (offered S o) C)).flag c) (sym z)
      (judged q l ∙ ap (λ (H : History). judge S H (engine_in (taken_in S (offered S o) C)).flag (citation (offered S o).instance (heights_in C (offered S o).instance * 32 + q))) (sym past-taken))
    where
      judged : (q : ℕ) → q < 32 → (engine_in (taken_in S (offered S o) C)).flag (citation (offered S o).instance (heights_in C (offered S o).instance * 32 + q))
          ≡ judge S (engine_in (stored_in (offered S o) C)).past (engine_in (taken_in S (offered S o) C)).flag (citation (offered S o).instance (heights_in C (offered S o).instance * 32 + q))
      judged q l = unfold taken_in in
          judging_new S Q.some (stored_in (offered S o) C) (offered S o).instance (heights_in C (offered S o).instance) A.there space good-room bound q l

  pub cells-taken : Taken S (offered S o) (engine_in C) (engine_in (taken_in S (offered S o) C))
  cells-taken = record {
    grown = subst (Grown S.m (offered S o) (engine_in C).past) (sym past-taken) G;
    old = old_flags;
    new = new_flags;
  }

-- the contract of the call for an offer, from the equations that the code promises: the answer, and the cells
pub cells-answered : (S : Sheet) → ProperSheet S → (C : Cells) (o : Offer) → (answer S (past_in C) o ≡ accepted → Roomy S.m C)
    → Answered S o (answer S (past_in C) o) (engine_in C) (engine_in (cells_offered S (answer S (past_in C) o) (offered S o) C))
unfolding cells_offered
cells-answered S Q C o room = record {
  says = refl;
  takes = λ t. subst (λ (D : Cells). Taken S (offered S o) (engine_in C) (engine_in D)) (sym (pick_true (is_accepted (answer S (past_in C) o)) _ _ t)) (cells-taken S Q C (room (accepted_of _ t)) o (accepted_of _ t));
  leaves = λ t. ap engine_in (pick-false (is_accepted (answer S (past_in C) o)) _ _ t);
}

-- a ledger without blocks
pub fresh-heights : (C : Cells) (j : ℕ) → count_in C.heights j ≡ 0 → (engine_in C).past.height j ≡ 0
fresh-heights C j z = height_in C j ∙ ap (λ (n : ℕ). climb (rank_in C.ranks j) (min n 128)) z ∙ climb_zero (rank_in C.ranks j)
