-- The plain ledger's logs, as the rules read them: an accepted block makes them grow by it.
-- Assumes nothing.
use Prim.Native.Nat.{◌%◌, ◌*◌, ◌+◌, ◌/◌, ◌<◌, ◌≤◌, ℕ}
use lib.ListN.{get_or-append, get_or, length, length-append}
use lib.Seq.{get_or-append_seam, get_or-set_other, get_or-set_same}
use mathlib.Core.List.{List, [], ◌++◌, ◌∷◌}
use mathlib.Core.Logic.{◌≢◌}
use mathlib.Core.Path.{◌∙◌, ◌≡◌, ap, sym}
use native.Mathlib.Decide.{ℕ_discrete}
use native.Mathlib.Omega.{arith}
use Rattle.escrow.proofs.Growth.{Extends}
use Rattle.sums.proofs.SeqLaws.{get_d_tabulate}
use Rattle.sums.specs.Seq.{Begins}
use Rattle.plain.specs.Logs.{EachBegins, Block, Logs, Values, appended, block_at, block_from, history_of, no_block}
use Rattle.plain.proofs.Engine.{Grown}
use Rattle.sheets.specs.Sheet.{Sheet}
use Rattle.settlement.specs.View.{no_cite}

module _ (L : Logs) (b : Values) (h : b.instance < length L) where
  log_own : get_or (appended L b.instance (block_from b)) b.instance [] ≡ get_or L b.instance [] ++ (block_from b ∷ [])
  unfolding appended
  log_own = get_or-set_same L b.instance _ [] h

  log_other : (j : ℕ) → j ≢ b.instance → get_or (appended L b.instance (block_from b)) j [] ≡ get_or L j []
  unfolding appended
  log_other j e = get_or-set_other L b.instance j _ [] e

  block_new : block_at (appended L b.instance (block_from b)) b.instance (length (get_or L b.instance [])) ≡ block_from b
  block_new = ap (λ (l : List Block). get_or l (length (get_or L b.instance [])) no_block) log_own ∙ get_or-append_seam (get_or L b.instance []) (block_from b) [] no_block

  block_own : (n : ℕ) → n < length (get_or L b.instance []) → block_at (appended L b.instance (block_from b)) b.instance n ≡ block_at L b.instance n
  block_own n l = ap (λ (l : List Block). get_or l n no_block) log_own ∙ get_or-append (get_or L b.instance []) (block_from b ∷ []) no_block n l

  block_old : (j n : ℕ) → n < length (get_or L j []) → block_at (appended L b.instance (block_from b)) j n ≡ block_at L j n
  block_old j n l = elim (ℕ_discrete j b.instance) [ yes q ↦ rw q (block_own n (rw q at l)) | no e ↦ ap (λ (l : List Block). get_or l n no_block) (log_other j e) ]

  pub list_grown : (m : ℕ) → m ≤ 16 → Grown m b (history_of L) (history_of (appended L b.instance (block_from b)))
  unfolding history_of
  list_grown m small = record {
    more = ap length log_own ∙ length-append (get_or L b.instance []) (block_from b ∷ []);
    others = λ j l e. ap length (log_other j e);
    old_rank = λ j n l u. ap (λ (k : Block). k.rank) (block_old j n u);
    old_entry = λ j n e l u k. ap (λ (k : Block). get_or k.cut e 0) (block_old j n u);
    old_cell = λ j p l u. ap (λ (k : Block). get_or k.cites (p % 32) no_cite) (block_old j (p / 32) (omega arith));
    new_rank = ap (λ (k : Block). k.rank) block_new;
    new_entry = λ e k. ap (λ (k : Block). get_or k.cut e 0) block_new ∙ get_d_tabulate 16 (λ e. get_or b.cut e 0) e 0 (omega arith);
    new_cell = λ q l. new_cell q l;
  }
    where
      new_cell : (q : ℕ) → q < 32 → get_or (block_at (appended L b.instance (block_from b)) b.instance ((length (get_or L b.instance []) * 32 + q) / 32)).cites ((length (get_or L b.instance []) * 32 + q) % 32) no_cite ≡ get_or b.cites q no_cite
      new_cell q l =
          let n : (length (get_or L b.instance []) * 32 + q) / 32 ≡ length (get_or L b.instance []) = omega arith in
          let r : (length (get_or L b.instance []) * 32 + q) % 32 ≡ q = omega arith in
          rw (n, r) (ap (λ (k : Block). get_or k.cites q no_cite) block_new)

-- ---- beginnings

pub begins_extends : (S : Sheet) (L L' : Logs) → EachBegins S L L' → Extends S (history_of L) (history_of L')
unfolding history_of
begins_extends S L L' h = record {
  longer = λ j l. longer j (h j l);
  ranks = λ j n l u. ap (λ (k : Block). k.rank) (same j n u (h j l));
  entries = λ j n e l u k. ap (λ (k : Block). get_or k.cut e 0) (same j n u (h j l));
  cells = λ j p l u. ap (λ (k : Block). get_or k.cites (p % 32) no_cite) (same j (p / 32) (omega arith) (h j l));
}
  where
    longer : (j : ℕ) → Begins (get_or L j []) (get_or L' j []) → length (get_or L j []) ≤ length (get_or L' j [])
    longer j b = omega (arith, ap length b.1, length-append (get_or L j []) b.0)

    same : (j n : ℕ) → n < length (get_or L j []) → Begins (get_or L j []) (get_or L' j []) → block_at L j n ≡ block_at L' j n
    same j n u b = sym (get_or-append (get_or L j []) b.0 no_block n u) ∙ ap (λ (l : List Block). get_or l n no_block) b.1
