-- Demand 2, "each content has one writing": the statement that the theorem `one-writing` of proofs/ proves.
-- Assumes nothing.
use Rattle.std.specs.Prelude.{◌+◌, ◌-◌, ℕ, drop, length, take, true, List, ◌++◌, ◌≡◌, Ok}
use Rattle.encoding.specs.Body.{balances_body, block_body, frame_bytes, header_body, transaction_body}
use Rattle.encoding.specs.Fits.{BalancesFit, BlockFits, HeaderFits, TransactionFits}
use Rattle.encoding.specs.Verdict.{balances_verdict, block_verdict, header_verdict, transaction_verdict}
use Rattle.fields.specs.Number.{AreBytes}
use Rattle.frames.specs.Balances.{balances_of}
use Rattle.frames.specs.Block.{block_of, cites_of}
use Rattle.frames.specs.Frame.{body_at, frame_at, whole_frame}
use Rattle.frames.specs.Header.{header_of}
use Rattle.frames.specs.Step.{loading_after, step_at, taken_step}
use Rattle.transactions.specs.Body.{transaction_of}
use Rattle.transactions.specs.Content.{Transaction}
use Rattle.frames.specs.declared.block.Block.{Block}
use Rattle.frames.specs.declared.header.Header.{Header}
use Rattle.frames.specs.declared.step.Loading.{Loading}
use Rattle.refusals.specs.Refusals.{Checked}

-- A kind of frame, with the sheet so far: its number, what a body says, the body of a content, the writer's verdict on a content, and the contents that its numbers' types can hold
pub record Kind : Type 1 where
  pub number : ℕ
  pub Content : Type 0
  pub says : List ℕ → Content
  pub body : Content → List ℕ
  pub verdict : Content → Checked
  pub Fits : Content → Type 0

-- the bytes of the frame of this kind with this content
abbrev pub writing : (K : Kind) → K.Content → List ℕ
writing K v = frame_bytes K.number (K.body v)

-- With the sheet so far, the reader takes a frame of this kind at an offset of a run; it ends at end, and says v
pub record Reads (s : Loading) (K : Kind) (run : List ℕ) (at end : ℕ) (v : K.Content) : Type 0 where
  pub framed : frame_at run at ≡ whole_frame K.number (at + 6) end
  pub taken : step_at run at s ≡ taken_step (loading_after s K.number (body_at run at)) end
  pub content : K.says (body_at run at) ≡ v

-- back: what a writer writes is read as what was written, at any offset and whatever stands before and after it.
-- writable, forth: what is read as a content is one that the writer takes, and has exactly the bytes of its writing.
-- alike: so two frames with equal content are equal
pub record OneWriting (s : Loading) (K : Kind) : Type 0 where
  pub back : (v : K.Content) (pre post : List ℕ) → K.Fits v → K.verdict v ≡ Ok tt
      → Reads s K (pre ++ (writing K v ++ post)) (length pre) (length pre + length (writing K v)) v
  pub writable : (run : List ℕ) (at end : ℕ) (v : K.Content) → Reads s K run at end v → K.verdict v ≡ Ok tt
  pub forth : (run : List ℕ) (at end : ℕ) (v : K.Content) → AreBytes run → Reads s K run at end v → take (end - at) (drop at run) ≡ writing K v
  pub alike : (run other : List ℕ) (at end at' end' : ℕ) (v : K.Content) → AreBytes run → AreBytes other → Reads s K run at end v → Reads s K other at' end' v
      → take (end - at) (drop at run) ≡ take (end' - at') (drop at' other)

-- kind 1
abbrev pub header_kind : Loading → Kind
header_kind s = record { number = 1; Content = Header; says = header_of; body = header_body; verdict = header_verdict s; Fits = HeaderFits }

-- kind 2
abbrev pub balances_kind : Loading → Kind
balances_kind s = record { number = 2; Content = List ℕ; says = balances_of s.a; body = balances_body; verdict = balances_verdict s; Fits = BalancesFit }

-- kind 3. The lists that a transaction is handed over in are as long as their counts
abbrev pub transaction_kind : Loading → Kind
transaction_kind s =
    record { number = 3; Content = Transaction; says = transaction_of; body = transaction_body; verdict = transaction_verdict s true; Fits = TransactionFits }

-- kind 4. The count is the number of citations; a cut is an array of sixteen
pub record BlockContent : Type 0 where
  pub block : Block
  pub cites : List ℕ

abbrev pub block_kind : Loading → Kind
block_kind s = record {
  number = 4;
  Content = BlockContent;
  says = λ b. record { block = block_of b s.m; cites = cites_of b s.m };
  body = λ c. block_body s.m c.block c.cites;
  verdict = λ c. block_verdict s c.block.cut (length c.cites) (length c.cites);
  Fits = λ c. BlockFits c.block c.cites;
}

-- the four kinds
pub record EachKind (s : Loading) : Type 0 where
  pub header : OneWriting s (header_kind s)
  pub balances : OneWriting s (balances_kind s)
  pub transaction : OneWriting s (transaction_kind s)
  pub block : OneWriting s (block_kind s)
