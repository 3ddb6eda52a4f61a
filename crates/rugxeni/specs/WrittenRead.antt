-- Document 01's demand 2, "Each content has one writing", for who links the static library: what its writers wrote is read back as what was written.
-- Assumes nothing.
use Rattle.std.specs.Prelude.{◌+◌, ◌≤◌, ℕ, get_or, length, take, List, ◌++◌, ◌≡◌}
use Rattle.encoding.specs.Body.{balances_body, block_body, frame_bytes, header_body, transaction_body}
use Rattle.encoding.specs.OneWriting.{Kind, Reads, balances_kind, block_kind, header_kind, transaction_kind, writing}
use Rattle.encoding.specs.Verdict.{balances_verdict, block_verdict, header_verdict, transaction_verdict}
use Rattle.frames.specs.declared.step.Loading.{Loading}
use Rattle.refusals.specs.Refusals.{Checked}
use Rattle.rugxeni.specs.Boundary.{WriteCall, block_with, counts_with, cut_with, header_with}
use Rattle.rugxeni.specs.Numbers.{ledger_in}
use Rattle.transactions_write.specs.Values.{Lists, lists_agree, transaction_with}

-- With the sheet so far, a reader finds the content v: at the front of the buffer that was lent, and wherever in a run the frame's bytes are put
pub record Found (s : Loading) (K : Kind) (v : K.Content) (out' told told' : List ℕ) : Type 0 where
  pub front : Reads s K out' 0 (length (writing K v)) v
  pub placed : (pre post : List ℕ) → Reads s K (pre ++ (take (length (writing K v)) out' ++ post)) (length pre) (length pre + length (writing K v)) v
  -- what is told, where one place was lent for it, is where the frame ends
  pub ends : 1 ≤ length told → get_or told' 0 0 ≡ length (writing K v)

-- A call of a writer on the numbers n: if it returned 0, and the numbers of v fit their fields, as those of the code's types do, then v is found.
-- That 22 numbers were lent need not be said: with fewer the call returns 16
abbrev pub ReadBack : (n : List ℕ) (K : Kind) → K.Content → (Loading → Checked) → (Loading → List ℕ) → Type 0
ReadBack n K v checked frame = (out told out' told' : List ℕ) (code : ℕ) → WriteCall n checked frame out told code out' told' → code ≡ 0 → K.Fits v
    → Found (ledger_in n).loading K v out' told told'

-- the four writers, each with the verdict and the bytes of its contract
pub record WrittenRead : Type 0 where
  -- rugxeni_write_header
  pub header : (n : List ℕ) (m a g t : ℕ) → ReadBack n (header_kind (ledger_in n).loading) (header_with m a g t)
      (λ (s : Loading). header_verdict s (header_with m a g t)) (λ (s : Loading). frame_bytes 1 (header_body (header_with m a g t)))
  -- rugxeni_write_balances
  pub balances : (n l : List ℕ) → ReadBack n (balances_kind (ledger_in n).loading) l
      (λ (s : Loading). balances_verdict s l) (λ (s : Loading). frame_bytes 2 (balances_body l))
  -- rugxeni_write_transaction: l are the seven lists
  pub transaction : (n : List ℕ) (kind d c o : ℕ) (l : Lists) → ReadBack n (transaction_kind (ledger_in n).loading) (transaction_with kind l)
      (λ (s : Loading). transaction_verdict s (lists_agree (counts_with kind d c o) l) (transaction_with kind l))
      (λ (s : Loading). frame_bytes 3 (transaction_body (transaction_with kind l)))
  -- rugxeni_write_block
  pub block : (n : List ℕ) (instance sequence rank count : ℕ) (cut citations : List ℕ)
      → ReadBack n (block_kind (ledger_in n).loading) (record { block = block_with instance sequence rank cut; cites = citations })
      (λ (s : Loading). block_verdict s (cut_with cut) count (length citations))
      (λ (s : Loading). frame_bytes 4 (block_body s.m (block_with instance sequence rank cut) citations))
