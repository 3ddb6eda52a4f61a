-- The theorem `one-writing`: for each of the four kinds, what is written is read back, what is read is written again, and so equal contents have equal bytes.
-- Assumes nothing.
use Rattle.std.proofs.Common.{Ok}
use Prim.Native.Nat.{◌*◌, ◌+◌, ◌-◌, ◌<◌, ◌≤◌, ℕ}
use lib.ListN.{drop, length, take}
use mathlib.Core.Bool.{true}
use mathlib.Core.List.{List, [], ◌++◌, append-nil}
use mathlib.Core.Logic.{inr}
use mathlib.Core.Path.{◌∙◌, ◌≡◌, ap, refl, sym}
use native.Mathlib.Omega.{arith}
use Rattle.encoding.proofs.BlockTrip.{block_back, block-forth, block_written, cites-back, cut-read, few-read}
use Rattle.encoding.proofs.FrameTrip.{between-bytes, body-written, content-writing, frame-written}
use Rattle.encoding.proofs.Lengths.{header_long, length-balances, length-block, length-frame}
use Rattle.encoding.proofs.SmallTrips.{balances-back, balances-forth, header-back, header-forth}
use Rattle.encoding.proofs.TransactionTrip.{check_written, short-transaction, transaction-back, transaction-forth}
use Rattle.encoding.proofs.VerdictLaws.{BlockVerdict, balances-verdict, balances-verdict_is, block-verdict, block-verdict_is, few-balances, header-verdict, header-verdict_is, instances_at, transaction-judged, transaction-verdict}
use Rattle.encoding.specs.Body.{balances_body, block_body, header_body, transaction_body}
use Rattle.encoding.specs.Fits.{BalancesFit}
use Rattle.encoding.specs.OneWriting.{BlockContent, EachKind, Kind, OneWriting, Reads, balances_kind, block_kind, header_kind, transaction_kind, writing}
use Rattle.encoding.specs.Verdict.{balances_verdict, block_verdict}
use Rattle.fields.specs.Number.{AreBytes}
use Rattle.frames.proofs.BalancesLaws.{balances_checked, balances_fine, length-read}
use Rattle.frames.proofs.BlockLaws.{block_checked}
use Rattle.frames.proofs.HeaderLaws.{header_checked, header_fine}
use Rattle.frames.proofs.StepLaws.{differ, judged-balances, judged-block, judged-header, judged-transaction, step-take, took_due, took_judged}
use Rattle.frames.specs.Balances.{balances_of, check_balances}
use Rattle.frames.specs.Block.{block_of, check_block, cites_of, cut_of}
use Rattle.frames.specs.Frame.{body_at, frame_at, whole_frame}
use Rattle.frames.specs.Header.{header_of}
use Rattle.frames.specs.Step.{after_check, judged, kind_due, loading_after}
use Rattle.transactions.proofs.BodyLaws.{judged_anywhere, transaction_checked, transaction_fine}
use Rattle.transactions.specs.Body.{transaction_of}
use Rattle.transactions.specs.Check.{check_transaction}
use Rattle.frames.specs.declared.block.Block.{Block}
use Rattle.frames.specs.declared.step.Loading.{Loading}

-- what a kind has to supply: of bodies alone
record Supplies (s : Loading) (K : Kind) : Type 0 where
  small : K.number < 65536
  due : (v : K.Content) → K.verdict v ≡ Ok tt → kind_due s ≡ K.number
  short : (v : K.Content) → K.verdict v ≡ Ok tt → length (K.body v) ≤ 8192
  back : (v : K.Content) → K.Fits v → K.verdict v ≡ Ok tt → K.says (K.body v) ≡ v
  fine : (v : K.Content) (at : ℕ) → K.Fits v → K.verdict v ≡ Ok tt → judged s K.number (K.body v) at ≡ Ok tt
  writable : (b : List ℕ) (at : ℕ) → kind_due s ≡ K.number → judged s K.number b at ≡ Ok tt → K.verdict (K.says b) ≡ Ok tt
  forth : (b : List ℕ) (at : ℕ) → AreBytes b → kind_due s ≡ K.number → judged s K.number b at ≡ Ok tt → K.body (K.says b) ≡ b

module _ (s : Loading) (K : Kind) (supplies : Supplies s K) where
  written_back : (v : K.Content) (pre post : List ℕ) → K.Fits v → K.verdict v ≡ Ok tt
      → Reads s K (pre ++ (writing K v ++ post)) (length pre) (length pre + length (writing K v)) v
  written_back v pre post fits ok =
      let b = K.body v in
      let run = pre ++ (writing K v ++ post) in
      let at = length pre in
      let short = supplies.short v ok in
      let body = body-written pre K.number b post supplies.small short in
      let ends : length pre + length (writing K v) ≡ length pre + 6 + length b = omega (arith, length-frame K.number b) in
      let framed : frame_at run at ≡ whole_frame K.number (at + 6) (at + length (writing K v)) = rw ends (frame-written pre K.number b post supplies.small short) in
      let judge : judged s K.number (body_at run at) at ≡ (Ok tt) = ap (λ (x : List ℕ). judged s K.number x at) body ∙ supplies.fine v at fits ok in
      record {
        framed = framed;
        taken = step-take run at s framed (sym (supplies.due v ok)) ∙ ap (after_check (loading_after s K.number (body_at run at)) (at + length (writing K v))) judge;
        content = ap K.says body ∙ supplies.back v fits ok;
      }

  module _ (run : List ℕ) (at end : ℕ) (v : K.Content) (r : Reads s K run at end v) where
    read-due : kind_due s ≡ K.number
    read-due = sym (took_due s run at (loading_after s K.number (body_at run at)) end r.framed r.taken)

    read-judged : judged s K.number (body_at run at) at ≡ Ok tt
    read-judged =
        ap (λ (k : ℕ). judged s k (body_at run at) at) (sym read-due) ∙ (took_judged s run at (loading_after s K.number (body_at run at)) end r.taken).0

    read-writable : K.verdict v ≡ Ok tt
    read-writable = ap K.verdict (sym r.content) ∙ supplies.writable (body_at run at) at read-due read-judged

    read-forth : AreBytes run → take (end - at) (drop at run) ≡ writing K v
    read-forth bytes =
        let body : AreBytes (body_at run at) = rw r.framed (between-bytes run (at + 6) end bytes) in
        content-writing run at bytes r.framed K.body K.says (supplies.forth (body_at run at) at body read-due read-judged)
        ∙ ap (writing K) r.content

  writing_of : OneWriting s K
  writing_of = record {
    back = written_back;
    writable = read-writable;
    forth = λ run at end v bytes r. read-forth run at end v r bytes;
    alike = λ run other at end at' end' v bytes bytes' r r'. read-forth run at end v r bytes ∙ sym (read-forth other at' end' v r' bytes');
  }

-- the four kinds
module _ (s : Loading) where
  header_supplies : Supplies s (header_kind s)
  header_supplies = record {
    small = omega arith;
    due = λ h e. (header-verdict s h e).due;
    short = λ h e. omega (arith, header_long h);
    back = λ h fits e. header-back h fits;
    fine = λ h at fits e. judged-header s 1 (header_body h) at refl ∙ header_fine (header_body h) at (header_long h) (rw (header-back h fits) (header-verdict s h e).ok);
    writable = λ b at due e.
        header-verdict_is s (header_of b) (record { due = due; ok = (header_checked b at (sym (judged-header s 1 b at refl) ∙ e)).1 });
    forth = λ b at bytes due e. header-forth b bytes (header_checked b at (sym (judged-header s 1 b at refl) ∙ e)).0;
  }

  by_balances : (b : List ℕ) (at : ℕ) → judged s 2 b at ≡ check_balances b at s.a
  by_balances b at = judged-balances s 2 b at (differ 2 1 (inr (omega arith))) refl

  balances_supplies : Supplies s (balances_kind s)
  balances_supplies = record {
    small = omega arith;
    due = λ l e. (balances-verdict s l e).due;
    short = λ l e. omega (arith, length-balances l, few-balances s l e);
    back = λ l fits e. read_back l fits e;
    fine = λ l at fits e. by_balances (balances_body l) at
        ∙ balances_fine (balances_body l) at s.a (length-balances l ∙ ap (λ (n : ℕ). 8 * n) (balances-verdict s l e).long) (rw (read_back l fits e) (balances-verdict s l e).ok);
    writable = λ b at due e. balances-verdict_is s (balances_of s.a b)
        (record { due = due; long = length-read s.a b; ok = (balances_checked b at s.a (sym (by_balances b at) ∙ e)).1 });
    forth = λ b at bytes due e. balances-forth s.a b bytes (balances_checked b at s.a (sym (by_balances b at) ∙ e)).0;
  }
    where
      read_back : (l : List ℕ) → BalancesFit l → balances_verdict s l ≡ Ok tt → balances_of s.a (balances_body l) ≡ l
      read_back l fits e = ap (λ (n : ℕ). balances_of n (balances_body l)) (sym (balances-verdict s l e).long) ∙ balances-back l fits

  by_transaction : (b : List ℕ) (at : ℕ) → judged s 3 b at ≡ check_transaction b at s.a s.g
  by_transaction b at = judged-transaction s 3 b at (differ 3 1 (inr (omega arith))) (differ 3 2 (inr (omega arith))) refl

  transaction_supplies : Supplies s (transaction_kind s)
  transaction_supplies = record {
    small = omega arith;
    due = λ t e. (transaction-verdict s t e).0;
    short = λ t e. short-transaction s.a s.g t (transaction-verdict s t e).1;
    back = λ t fits e. ap transaction_of (sym (append-nil (transaction_body t))) ∙ transaction-back t [] fits;
    fine = λ t at fits e. by_transaction (transaction_body t) at ∙ check_written t at s.a s.g fits ∙ judged_anywhere 0 at s.a s.g t (transaction-verdict s t e).1;
    writable = λ b at due e. transaction-judged s true (transaction_of b) due refl
        ∙ judged_anywhere at 0 s.a s.g (transaction_of b) (transaction_checked b at s.a s.g (sym (by_transaction b at) ∙ e));
    forth = λ b at bytes due e. let f = transaction_fine b at s.a s.g (sym (by_transaction b at) ∙ e) in transaction-forth b bytes f.four f.due;
  }

  by_block : (b : List ℕ) (at : ℕ) → judged s 4 b at ≡ check_block b at s.m
  by_block b at = judged-block s 4 b at (differ 4 1 (inr (omega arith))) (differ 4 2 (inr (omega arith))) (differ 4 3 (inr (omega arith))) refl

  block_supplies : Supplies s (block_kind s)
  unfolding block_of
  block_supplies = record {
    small = omega arith;
    due = λ c e. (verdict-of c e).due;
    short = λ c e. omega (arith, length-block s.m c.block c.cites, instances_at s (verdict-of c e).due, (verdict-of c e).few);
    back = λ c fits e. let v = verdict-of c e in
        same (block_back s.m c.block c.cites fits v.few (instances_at s v.due) v.zeros) (cites-back s.m c.block c.cites fits v.few);
    fine = λ c at fits e. by_block (block_body s.m c.block c.cites) at ∙ block_written s.m c.block c.cites at fits (verdict-of c e).few;
    writable = λ b at due e. let k = block_checked b at s.m (sym (by_block b at) ∙ e) in
        block-verdict_is s (cut_of b s.m) (length (cites_of b s.m)) (length (cites_of b s.m))
        (record { due = due; same = refl; few = few-read b s.m k.few; zeros = cut-read b s.m });
    forth = λ b at bytes due e. block-forth b s.m bytes (instances_at s due) (block_checked b at s.m (sym (by_block b at) ∙ e)).long;
  }
    where
      verdict-of : (c : BlockContent) → block_verdict s c.block.cut (length c.cites) (length c.cites) ≡ Ok tt → BlockVerdict s c.block.cut (length c.cites) (length c.cites)
      verdict-of c e = block-verdict s c.block.cut (length c.cites) (length c.cites) e

      same : {x y : Block} {l k : List ℕ} → x ≡ y → l ≡ k → ◌≡◌ {A = BlockContent} (record { block = x; cites = l }) (record { block = y; cites = k })
      same p q = rw (p, q) refl

  pub one-writing : EachKind s
  one-writing = record {
    header = writing_of s (header_kind s) header_supplies;
    balances = writing_of s (balances_kind s) balances_supplies;
    transaction = writing_of s (transaction_kind s) transaction_supplies;
    block = writing_of s (block_kind s) block_supplies;
  }
