-- The call for the two lists beside the records: its answer, and what it leaves.
-- Assumes nothing.
use Prim.Native.Nat.{◌<◌, ◌≤◌, ℕ}
use borrow.Author.Tests.{le-ltb, lt-ltb, ltb-false}
use lib.Dec.{ltb}
use lib.ListN.{get_or, length, take}
use mathlib.Core.Bool.{Bool, false, not, true}
use mathlib.Core.List.{List, [], ◌++◌, ◌∷◌}
use mathlib.Core.Path.{◌∙◌, ◌≡◌, ap, ap₂, refl, subst, sym}
use native.Mathlib.Omega.{arith}
use Rattle.account_records.proofs.OverLaws.{joined-filled}
use Rattle.account_records.specs.Records.{ReadsBeside, ReadsRecords, joined, over, records_answer, records_of}
use Rattle.account_records.specs.declared.Account.{Account}
use Rattle.plain.proofs.AnswerLaws.{accepted_of, lent_enough, refuse_false, refuse_pass, refuse_true, then_accepted, then_assoc, then_pass, then_stop}
use Rattle.plain.specs.Answer.{Answer, ◌then◌, accepted, is_accepted, no_offer, refuse, refused}
use Rattle.plain.specs.Plain.{lent_answer}
use Rattle.plain.specs.Report.{accounts, fill_needs, filled_with, lists_of, read_answer, report_by, settle_needs, value_of, work_needs}
use Rattle.readings.proofs.RoomLaws.{lent-append}
use Rattle.readings.specs.Reading.{Reads, report_in, settle_lengths}
use Rattle.settlement.specs.Tables.{Buffers}
use Rattle.sheets.proofs.SheetCells.{sheet-a}
use Rattle.state.specs.State.{Kept, complete, sheet_of, sizes_of}
use Rattle.state.specs.declared.ledger.Ledger.{Ledger}
use Rattle.sums.proofs.SeqLaws.{length-tabulate}
use Rattle.sums.proofs.TestLaws.{pick-false}
use Rattle.sums.specs.Seq.{fill}
use Rattle.sums.specs.Test.{given, pick}

after-refused : (a b : Answer) → is_accepted b ≡ false → is_accepted (a then b) ≡ false
unfolding ◌then◌
after-refused accepted b e = e
after-refused (refused n p) b e = refl
after-refused no_offer b e = refl

-- ---- the answer where the records are short: the lists need as many places, so what was lent of them does not matter

three-short : (n f h room : ℕ) → room < n → (lent_answer (n ∷ n ∷ []) (f ∷ h ∷ []) then refuse (ltb room n) 16 n) ≡ refused 16 n
unfolding lent_answer ◌then◌ refuse
three-short n f h room e = by (ltb f n) (ltb h n)
  where
    by : (p q : Bool) → ((refuse p 16 n then refuse q 16 n then accepted) then refuse (ltb room n) 16 n) ≡ refused 16 n
    by true q = refl
    by false true = refl
    by false false = refuse_true _ 16 n (lt-ltb room n e)

none-short : (n room : ℕ) → room < n → lent_answer (n ∷ n ∷ []) (0 ∷ 0 ∷ []) ≡ refused 16 n
unfolding lent_answer
none-short n room e = then_stop _ _ 16 n (refuse_true _ 16 n (lt-ltb 0 n (omega arith)))

short-lent : (needs lent : List ℕ) (n f h room : ℕ) → length needs ≡ length lent → room < n
    → (lent_answer (needs ++ (n ∷ n ∷ [])) (lent ++ (f ∷ h ∷ [])) then refuse (ltb room n) 16 n) ≡ lent_answer (needs ++ (n ∷ n ∷ [])) (lent ++ (0 ∷ 0 ∷ []))
short-lent needs lent n f h room s e =
    ap (λ (a : Answer). a then refuse (ltb room n) 16 n) (sym (lent-append needs lent (n ∷ n ∷ []) (f ∷ h ∷ []) s)) ∙ then_assoc (lent_answer needs lent) _ _
    ∙ ap (λ (a : Answer). lent_answer needs lent then a) (three-short n f h room e ∙ sym (none-short n room e)) ∙ lent-append needs lent (n ∷ n ∷ []) (0 ∷ 0 ∷ []) s

-- so it is no acceptance
short-refused : (needs lent : List ℕ) (n room : ℕ) → length needs ≡ length lent → room < n → is_accepted (lent_answer (needs ++ (n ∷ n ∷ [])) (lent ++ (0 ∷ 0 ∷ []))) ≡ false
short-refused needs lent n room s e =
    ap is_accepted (sym (lent-append needs lent (n ∷ n ∷ []) (0 ∷ 0 ∷ []) s)) ∙ after-refused (lent_answer needs lent) _ (ap is_accepted (none-short n room e))

-- ---- the two ways of the call

module _ (l : Ledger) (K : Kept) (W : Buffers) (room : ℕ) (a : Answer) (W' : Buffers) (f h f' h' : List ℕ) where
  places_needed : fill_needs (sheet_of l K) (report_in l K) accounts ≡ l.loading.a ∷ l.loading.a ∷ []
  unfolding fill_needs
  places_needed = rw (sheet-a K.sheet (sizes_of l)) refl

  -- the call with no list at all
  pub beside-short : Reads l K W accounts ([] ∷ [] ∷ []) a 0 W' (f' ∷ h' ∷ []) → room < l.loading.a → ReadsBeside l K W (f ∷ h ∷ []) room a W' (f ∷ h ∷ [])
  unfolding records_answer read_answer work_needs settle_needs fill_needs pick
  beside-short c e = record {
    answered = c.tells.answered ∙ sym (then_assoc (refuse (not (complete l)) 3 0) _ _ ∙ ap (λ (z : Answer). refuse (not (complete l)) 3 0 then z) (short-lent (settle_needs (sheet_of l K)) (settle_lengths K W) (sheet_of l K).a (length f) (length h) room refl short));
    lists = sym (pick-false _ _ _ no);
    quiet = c.quiet;
    beyond = c.beyond;
  }
    where
      short : room < (sheet_of l K).a
      short = rw (sheet-a K.sheet (sizes_of l)) e

      no : is_accepted a ≡ false
      no = ap is_accepted c.tells.answered ∙ after-refused (refuse (not (complete l)) 3 0) _ (short-refused (settle_needs (sheet_of l K)) (settle_lengths K W) (sheet_of l K).a room refl short)

  -- the call with the two lists
  pub beside_full : Reads l K W accounts (f ∷ h ∷ []) a 0 W' (f' ∷ h' ∷ []) → l.loading.a ≤ room → ReadsBeside l K W (f ∷ h ∷ []) room a W' (f' ∷ h' ∷ [])
  unfolding records_answer
  beside_full c e = record {
    answered = c.tells.answered ∙ sym (rw (refuse_false (ltb room (sheet_of l K).a) 16 (sheet_of l K).a (le-ltb room (sheet_of l K).a enough)) (then_accepted _));
    lists = c.tells.lists;
    quiet = c.quiet;
    beyond = c.beyond;
  }
    where
      enough : (sheet_of l K).a ≤ room
      enough = rw (sheet-a K.sheet (sizes_of l)) e

-- ---- what the records need, and what becomes of them

lent_last : (needs lent : List ℕ) (n f h : ℕ) → length needs ≡ length lent → lent_answer (needs ++ (n ∷ n ∷ [])) (lent ++ (f ∷ h ∷ [])) ≡ accepted → (n ≤ f) × (n ≤ h)
lent_last needs lent n f h s e =
    let p = lent_enough n f (n ∷ []) (h ∷ []) (then_pass (lent_answer needs lent) _ (lent-append needs lent (n ∷ n ∷ []) (f ∷ h ∷ []) s ∙ e)).1 in
    (p.0, (lent_enough n h [] [] p.1).0)

module _ (l : Ledger) (K : Kept) (W : Buffers) (f h : List ℕ) (room : ℕ) (a : Answer) (W' : Buffers) (f' h' : List ℕ) (c : ReadsBeside l K W (f ∷ h ∷ []) room a W' (f' ∷ h' ∷ [])) where
  -- an acceptance says that there are as many places as accounts
  pub record Enough : Type 0 where
    pub free : l.loading.a ≤ length f
    pub held : l.loading.a ≤ length h
    pub records : l.loading.a ≤ room

  enough : is_accepted a ≡ true → Enough
  unfolding records_answer read_answer work_needs settle_needs fill_needs
  enough e =
      let p = then_pass _ _ (sym c.answered ∙ accepted_of a e) in
      let q = then_pass _ _ p.0 in
      let s = lent_last (settle_needs (sheet_of l K)) (settle_lengths K W) (sheet_of l K).a (length f) (length h) refl q.1 in
      let r = ltb-false room (sheet_of l K).a (refuse_pass _ 16 _ p.1) in
      let z = sheet-a K.sheet (sizes_of l) in
      record { free = omega (arith, s.0, z); held = omega (arith, s.1, z); records = omega (arith, r, z) }

  -- a call that is accepted is a call for the accounts, so that what is shown of those holds of it
  pub as_accounts : is_accepted a ≡ true → Reads l K W accounts (f ∷ h ∷ []) a 0 W' (f' ∷ h' ∷ [])
  unfolding records_answer pick value_of
  as_accounts e = record {
    tells = record {
      answered = accepted_of a e ∙ sym (then_pass _ _ (sym c.answered ∙ accepted_of a e)).0;
      value = rw e refl;
      lists = c.lists;
    };
    quiet = c.quiet;
    beyond = c.beyond;
  }

  module _ (n : ℕ) (en : n ≡ given (is_accepted a) l.loading.a) where
    pub all_fit : length f' ≡ length f → length h' ≡ length h → (n ≤ length f') × (n ≤ length h') × (n ≤ room)
    unfolding given
    all_fit p q = by (is_accepted a) refl
      where
        by : (t : Bool) → is_accepted a ≡ t → (n ≤ length f') × (n ≤ length h') × (n ≤ room)
        by true e = let s = enough e in let z : n ≡ l.loading.a = en ∙ rw e refl in (omega (arith, s.free, p, z), omega (arith, s.held, q, z), omega (arith, s.records, z))
        by false e = let z : n ≡ 0 = en ∙ rw e refl in (omega (arith, z), omega (arith, z), omega (arith, z))

    -- the first n records of the two lists are those of the report
    pub records_filled : (xs xs' : List Account) → xs' ≡ over (take n (joined f' h')) xs → xs' ≡ pick (is_accepted a) (over (records_of (report_in l K)) xs) xs
    unfolding given pick filled_with lists_of report_in report_by over
    records_filled xs xs' ex = by (is_accepted a) refl
      where
        by : (t : Bool) → is_accepted a ≡ t → xs' ≡ pick t (over (records_of (report_in l K)) xs) xs
        by true e =
            let s = enough e in
            let z : n ≡ l.loading.a = en ∙ rw e refl in
            let w = sheet-a K.sheet (sizes_of l) in
            let i : f' ∷ h' ∷ [] ≡ fill (report_in l K).free f ∷ fill (report_in l K).held h ∷ [] = c.lists ∙ rw e refl in
            let p : length (report_in l K).free ≡ (sheet_of l K).a = length-tabulate _ _ in
            let q : length (report_in l K).held ≡ (sheet_of l K).a = length-tabulate _ _ in
            let m : n ≡ length (report_in l K).free = omega (arith, z, w, p) in
            let j = joined-filled (report_in l K).free (report_in l K).held f h (p ∙ sym q) (omega (arith, s.free, w, p)) (omega (arith, s.held, w, p)) in
            ex ∙ ap (λ (r : List Account). over r xs) (ap₂ (λ (k : ℕ) (o : List (List ℕ)). take k (joined (get_or o 0 []) (get_or o 1 []))) m i ∙ j)
        by false e = let z : n ≡ 0 = en ∙ rw e refl in ex ∙ ap (λ (k : ℕ). over (take k (joined f' h')) xs) z

    pub records-read : (xs xs' : List Account) → room ≡ length xs → xs' ≡ over (take n (joined f' h')) xs → ReadsRecords l K W (f ∷ h ∷ []) xs a W' (f' ∷ h' ∷ []) xs'
    records-read xs xs' er ex = record { beside = subst (λ (k : ℕ). ReadsBeside l K W (f ∷ h ∷ []) k a W' (f' ∷ h' ∷ [])) er c; filled = records_filled xs xs' ex }
