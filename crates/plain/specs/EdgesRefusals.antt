-- An offer for each refusal of document 01's table, in the order of the rules; an offer of the lists `turned`, `frames_turned` and `early_turned` meets the later refusals of its list too, as far as one that meets its own can.
-- Then offers that meet a refusal by just one, or would give another place. proofs/EdgesRefusals shows the answers.
-- Assumes nothing.
use Rattle.std.specs.Prelude.{◌%◌, ◌+◌, ◌/◌, ℕ, length, replicate, set, Bool, false, true, List, [], ◌++◌, ◌∷◌, map, ◌≡◌, Ok, Err, None}
use Rattle.frames.specs.Step.{step_at}
use Rattle.frames.specs.declared.step.Loading.{Loading}
use Rattle.frames.specs.Step.{Step}
use Rattle.plain.specs.Answer.{Answer, accepted, no_offer, refused}
use Rattle.plain.specs.Early.{early_answer}
use Rattle.plain.specs.Edges.{ent, offers_of, pay, sheet_of, whole_report, whole_sheet}
use Rattle.plain.specs.Logs.{Logs, Values, history_of}
use Rattle.plain.specs.Offers.{Offer, frame, offer_needs, values}
use Rattle.plain.specs.Plain.{answer, ledger}
use Rattle.plain.specs.Report.{Query, accounts, log, read_answer, registers, settlements, share}
use Rattle.refusals.specs.declared.Refusal.TheVariants.{Short}
use Rattle.sheets.specs.Sheet.{Sheet}

-- an offer, and its answer
pub record Case : Type 0 where
  pub offer : Offer
  pub answer : Answer

infixr 70 ◌gives◌
abbrev pub ◌gives◌ : Offer → Answer → Case
o gives a = record { offer = o; answer = a }

-- three instances; payments 0 and 2 have their part in instance 0, payment 1 in instance 1, and pays account 0
abbrev pub three_pay : Sheet
three_pay = sheet_of 3 0 (9 ∷ 9 ∷ 9 ∷ []) (pay (ent 0 1 ∷ []) (ent 1 1 ∷ []) ∷ pay (ent 1 1 ∷ []) (ent 0 1 ∷ []) ∷ pay (ent 0 1 ∷ []) (ent 2 1 ∷ []) ∷ [])

-- instance, sequence number, rank, the first three cut entries, citations
abbrev pub blk3 : ℕ → ℕ → ℕ → ℕ → ℕ → ℕ → List ℕ → Values
blk3 i s r c₀ c₁ c₂ xs = record { instance = i; number = s; rank = r; cut = c₀ ∷ c₁ ∷ c₂ ∷ replicate 13 0; cites = xs }

-- the same with 1 at entry e of the cut
abbrev pub spoilt : ℕ → Values → Values
spoilt e b = record { instance = b.instance; number = b.number; rank = b.rank; cut = set b.cut e 1; cites = b.cites }

-- just enough lent
abbrev pub room : List ℕ
room = offer_needs three_pay

-- the same values, with just enough lent
abbrev pub off : ℕ → ℕ → ℕ → ℕ → ℕ → ℕ → List ℕ → Offer
off i s r c₀ c₁ c₂ xs = values room (blk3 i s r c₀ c₁ c₂ xs)

-- the three blocks that stand first: instance 0 cites 0 in its first block and 2 in its second, and only the second sees the block of instance 1; instance 2 has none
abbrev pub logs_before : Logs
logs_before = ledger three_pay (offers_of three_pay (blk3 0 1 5 0 0 0 (0 ∷ []) ∷ blk3 1 1 3 1 0 0 [] ∷ blk3 0 2 6 1 1 0 (2 ∷ []) ∷ []))

-- offered to that ledger
abbrev pub Gives : Case → Type 0
Gives c = answer three_pay (history_of logs_before) c.offer ≡ c.answer

-- offered while the sheet is not complete
abbrev pub GivesEarly : Case → Type 0
GivesEarly c = early_answer three_pay c.offer ≡ c.answer

abbrev pub offers_in : List Case → List Offer
offers_in l = map (λ (c : Case). c.offer) l

-- ---- a block's values: 16, 5 (count), 5 (unused entry), 8, 9, 10, 11, 12, 13, 14, 15, and taken. 17 stands in specs/EdgesFull

-- 13 at place 0, 14 at place 1, 15 at place 2 in instance 0
abbrev pub wrongs : List ℕ
wrongs = 7 ∷ 1 ∷ 0 ∷ []

abbrev pub turned : List Case
turned =
    values [] (spoilt 3 (blk3 3 9 0 9 9 9 (wrongs ++ replicate 30 7))) gives refused 16 324
    ∷ values room (spoilt 3 (blk3 3 9 0 9 9 9 (wrongs ++ replicate 30 7))) gives refused 5 0
    ∷ values room (spoilt 3 (blk3 3 9 0 9 9 9 wrongs)) gives refused 5 0
    ∷ off 3 9 0 9 9 9 wrongs gives refused 8 0
    ∷ off 0 9 0 9 9 9 wrongs gives refused 9 3
    ∷ off 0 3 0 9 9 9 wrongs gives refused 10 6
    ∷ off 0 3 7 9 9 9 wrongs gives refused 11 0
    ∷ off 0 3 7 2 9 9 wrongs gives refused 12 1
    ∷ off 0 3 7 2 1 0 (7 ∷ 1 ∷ 0 ∷ []) gives refused 13 0
    ∷ off 0 3 7 2 1 0 (1 ∷ 0 ∷ []) gives refused 14 0
    ∷ off 0 3 7 2 1 0 (0 ∷ []) gives refused 15 0
    ∷ off 0 3 7 2 1 0 [] gives accepted ∷ []

-- ---- met by one, and the place that is given

-- 16: one place too few is too short, in each buffer; of several the first in the call counts; more than enough is fine
abbrev pub lends : List Case
lends =
    values (set room 0 323) (blk3 1 2 4 2 1 0 []) gives refused 16 324
    ∷ values (set room 1 383) (blk3 1 2 4 2 1 0 []) gives refused 16 384
    ∷ values (set room 2 6143) (blk3 1 2 4 2 1 0 []) gives refused 16 6144
    ∷ values (set room 3 12287) (blk3 1 2 4 2 1 0 []) gives refused 16 12288
    ∷ values (set room 4 12287) (blk3 1 2 4 2 1 0 []) gives refused 16 12288
    ∷ values (set room 5 5) (blk3 1 2 4 2 1 0 []) gives refused 16 6
    ∷ values (set room 6 2) (blk3 1 2 4 2 1 0 []) gives refused 16 3
    ∷ values (set room 7 383) (blk3 1 2 4 2 1 0 []) gives refused 16 384
    ∷ values (set (set room 2 6143) 6 0) (blk3 1 2 4 2 1 0 []) gives refused 16 6144
    ∷ values (set room 3 99999) (blk3 1 2 4 2 1 0 []) gives accepted ∷ []

-- 5: an unused entry, the first or the last. 9: the number due, not the one offered. 10: the last rank, not the one offered; an equal rank is not above; 0 where there is no block
abbrev pub fronts : List Case
fronts =
    values room (spoilt 3 (blk3 1 2 4 2 1 0 [])) gives refused 5 0
    ∷ values room (spoilt 15 (blk3 1 2 4 2 1 0 [])) gives refused 5 0
    ∷ off 0 2 7 1 1 0 [] gives refused 9 3
    ∷ off 0 4 7 3 1 0 [] gives refused 9 3
    ∷ off 2 0 1 0 0 0 [] gives refused 9 1
    ∷ off 2 2 1 0 0 1 [] gives refused 9 1
    ∷ off 0 3 4 2 1 0 [] gives refused 10 6
    ∷ off 0 3 6 2 1 0 [] gives refused 10 6
    ∷ off 2 1 0 0 0 0 [] gives refused 10 0 ∷ []

-- 11: own entry one too low, though not below the block before, and one too high; an entry below the block before, though not below the first; of two the first; 11 at entry 1 before 12 at entry 0.
-- 12: one more than was accepted; of two the first
abbrev pub entries : List Case
entries =
    off 0 3 7 1 1 0 [] gives refused 11 0
    ∷ off 0 3 7 3 1 0 [] gives refused 11 0
    ∷ off 1 2 4 2 0 0 [] gives refused 11 1
    ∷ off 1 2 4 0 1 0 [] gives refused 11 0
    ∷ off 0 3 7 2 0 0 [] gives refused 11 1
    ∷ off 1 2 4 0 9 0 [] gives refused 11 0
    ∷ off 1 2 4 9 0 0 [] gives refused 11 1
    ∷ off 0 3 7 2 2 0 [] gives refused 12 1
    ∷ off 0 3 7 2 1 1 [] gives refused 12 2
    ∷ off 0 3 7 2 2 1 [] gives refused 12 1
    ∷ off 2 1 1 3 0 0 [] gives refused 12 0 ∷ []

-- 13: at t itself; 13, 14 and 15 at each citation in turn. 14: a credit on an account of the instance is no part. 15: cited in an earlier block, in the latest, in this one
abbrev pub citations : List Case
citations =
    off 0 3 7 2 1 0 (3 ∷ []) gives refused 13 0
    ∷ off 1 2 4 2 1 0 (1 ∷ 3 ∷ []) gives refused 13 1
    ∷ off 0 3 7 2 1 0 (1 ∷ 3 ∷ []) gives refused 14 0
    ∷ off 0 3 7 2 1 0 (0 ∷ 3 ∷ []) gives refused 15 0
    ∷ off 2 1 1 0 0 0 (2 ∷ []) gives refused 14 0
    ∷ off 0 3 7 2 1 0 (0 ∷ []) gives refused 15 0
    ∷ off 0 3 7 2 1 0 (2 ∷ []) gives refused 15 0
    ∷ off 1 2 4 2 1 0 (1 ∷ 1 ∷ []) gives refused 15 1 ∷ []

-- taken: a cut that is just covered; one that sees nothing new; a transaction that only this instance may cite; a first block that sees nothing, or everything; the highest rank
abbrev pub takes : List Case
takes =
    off 0 3 7 2 1 0 [] gives accepted
    ∷ off 1 2 4 1 1 0 [] gives accepted
    ∷ off 1 2 4 2 1 0 (1 ∷ []) gives accepted
    ∷ off 2 1 1 0 0 0 [] gives accepted
    ∷ off 2 1 4294967295 2 1 0 [] gives accepted ∷ []

-- ---- slips

abbrev pub two : ℕ → List ℕ
two n = n % 256 ∷ n / 256 ∷ []

abbrev pub four : ℕ → List ℕ
four n = two (n % 65536) ++ two (n / 65536)

abbrev pub twos : List ℕ → List ℕ
twos [] = []
twos (x ∷ l) = two x ++ twos l

-- kind, body
abbrev pub frame_with : ℕ → List ℕ → List ℕ
frame_with k b = four (length b + 2) ++ two k ++ b

-- instance, sequence number, rank, count, cut, citations
abbrev pub body : ℕ → ℕ → ℕ → ℕ → List ℕ → List ℕ → List ℕ
body i s r n c xs = two i ++ two s ++ four r ++ two n ++ twos c ++ twos xs

-- at offset 5, behind bytes that are not looked at
abbrev pub at5 : List ℕ → Offer
at5 bytes = frame room (255 ∷ 255 ∷ 255 ∷ 255 ∷ 255 ∷ bytes) 5

-- no byte left, 16, 1 (length field), 2, 1 (body), 3, 4, 5, 8, 9, and taken though more bytes follow
abbrev pub frames_turned : List Case
frames_turned =
    frame [] (255 ∷ 255 ∷ 255 ∷ 255 ∷ 255 ∷ []) 5 gives no_offer
    ∷ frame [] (255 ∷ 255 ∷ 255 ∷ 255 ∷ 255 ∷ 1 ∷ []) 5 gives refused 16 324
    ∷ at5 (1 ∷ 0 ∷ 0 ∷ []) gives refused 1 5
    ∷ at5 (1 ∷ 0 ∷ 0 ∷ 0 ∷ []) gives refused 2 5
    ∷ at5 (four 3 ++ two 9) gives refused 1 5
    ∷ at5 (frame_with 9 (body 3 9 0 33 (9 ∷ []) [])) gives refused 3 5
    ∷ at5 (frame_with 4 (body 3 9 0 33 (9 ∷ 9 ∷ 9 ∷ []) (replicate 32 7))) gives refused 4 5
    ∷ at5 (frame_with 4 (body 3 9 0 33 (9 ∷ 9 ∷ 9 ∷ []) (replicate 33 7))) gives refused 5 5
    ∷ at5 (frame_with 4 (body 3 9 0 3 (9 ∷ 9 ∷ 9 ∷ []) wrongs)) gives refused 8 0
    ∷ at5 (frame_with 4 (body 0 9 0 3 (9 ∷ 9 ∷ 9 ∷ []) wrongs)) gives refused 9 3
    ∷ at5 (frame_with 4 (body 1 2 4 1 (2 ∷ 1 ∷ 0 ∷ []) (1 ∷ [])) ++ 255 ∷ []) gives accepted ∷ []

-- 1: one byte left; a body one byte short. 2: L 1 and 8,195, not 2 and 8,194. 3: the kinds of the sheet, and the high byte of the kind. 4: no counts, a body one byte short by its counts, one too long
abbrev pub frames_near : List Case
frames_near =
    at5 (2 ∷ []) gives refused 1 5
    ∷ at5 (four 8194) gives refused 1 5
    ∷ at5 (four 8195) gives refused 2 5
    ∷ at5 (four 65538 ++ two 4) gives refused 2 5
    ∷ at5 (four 19 ++ two 4 ++ body 1 2 4 0 (2 ∷ 1 ∷ 0 ∷ []) []) gives refused 1 5
    ∷ at5 (frame_with 0 []) gives refused 3 5
    ∷ at5 (frame_with 1 (twos (3 ∷ 3 ∷ 0 ∷ 3 ∷ []))) gives refused 3 5
    ∷ at5 (frame_with 2 (replicate 24 0)) gives refused 3 5
    ∷ at5 (frame_with 3 (body 1 2 4 0 (2 ∷ 1 ∷ 0 ∷ []) [])) gives refused 3 5
    ∷ at5 (frame_with 260 (body 1 2 4 0 (2 ∷ 1 ∷ 0 ∷ []) [])) gives refused 3 5
    ∷ at5 (frame_with 4 []) gives refused 4 5
    ∷ at5 (frame_with 4 (replicate 9 0)) gives refused 4 5
    ∷ at5 (frame_with 4 (body 1 2 4 1 (2 ∷ 1 ∷ 0 ∷ []) (1 ∷ []) ++ 0 ∷ [])) gives refused 4 5
    ∷ at5 (frame_with 4 (body 1 2 4 1 (2 ∷ 1 ∷ []) (1 ∷ []))) gives refused 4 5
    ∷ at5 (frame_with 4 (body 1 2 4 0 (2 ∷ 1 ∷ 0 ∷ []) [])) gives accepted ∷ []

-- every number in all its bytes: instance, sequence number, rank, cut entry, citation
abbrev pub frames_wide : List Case
frames_wide =
    at5 (frame_with 4 (body 257 2 4 0 (2 ∷ 1 ∷ 0 ∷ []) [])) gives refused 8 0
    ∷ at5 (frame_with 4 (body 1 258 4 0 (2 ∷ 1 ∷ 0 ∷ []) [])) gives refused 9 2
    ∷ at5 (frame_with 4 (body 1 2 65536 0 (2 ∷ 1 ∷ 0 ∷ []) [])) gives accepted
    ∷ at5 (frame_with 4 (body 1 2 4 0 (258 ∷ 1 ∷ 0 ∷ []) [])) gives refused 12 0
    ∷ at5 (frame_with 4 (body 1 2 4 1 (2 ∷ 1 ∷ 0 ∷ []) (257 ∷ []))) gives refused 13 0 ∷ []

-- ---- before the sheet is complete: 16, then 3 with place 0 for values; for a slip 16, 1, 2, 1, then 3 at its offset, whatever its kind.
-- A slip where no byte is left is no offer, here too
abbrev pub early_turned : List Case
early_turned =
    values [] (spoilt 3 (blk3 3 9 0 9 9 9 (replicate 33 7))) gives refused 16 324
    ∷ values room (spoilt 3 (blk3 3 9 0 9 9 9 (replicate 33 7))) gives refused 3 0
    ∷ off 1 2 4 2 1 0 (1 ∷ []) gives refused 3 0
    ∷ frame [] (255 ∷ 255 ∷ 255 ∷ 255 ∷ 255 ∷ []) 5 gives no_offer
    ∷ frame [] (255 ∷ 255 ∷ 255 ∷ 255 ∷ 255 ∷ 1 ∷ []) 5 gives refused 16 324
    ∷ at5 [] gives no_offer
    ∷ at5 (1 ∷ 0 ∷ 0 ∷ []) gives refused 1 5
    ∷ at5 (1 ∷ 0 ∷ 0 ∷ 0 ∷ []) gives refused 2 5
    ∷ at5 (four 8195) gives refused 2 5
    ∷ at5 (four 3 ++ two 9) gives refused 1 5
    ∷ at5 (frame_with 4 (body 3 9 0 33 (9 ∷ []) [])) gives refused 3 5
    ∷ at5 (frame_with 1 (twos (3 ∷ 3 ∷ 0 ∷ 3 ∷ []))) gives refused 3 5 ∷ []

-- "also no byte left before the sheet is complete": this refusal 1 is the answer of the call that loads the sheet, while a header,
-- balances or a transaction is due; once the sheet is complete the run ends there
pub record Ending : Type 0 where
  pub loading : Loading
  pub step : Step

abbrev pub Ends : Ending → Type 0
Ends e = step_at (255 ∷ 255 ∷ 255 ∷ 255 ∷ 255 ∷ []) 5 e.loading ≡ e.step

-- stage, and how many of the three transactions are loaded
abbrev pub so_far : ℕ → ℕ → Loading
so_far stage n = record { m = 3; a = 3; g = 0; t = 3; stage = stage; loaded = n }

abbrev pub endings : List Ending
endings =
    record { loading = so_far 0 0; step = Err (Short 5) }
    ∷ record { loading = so_far 1 0; step = Err (Short 5) }
    ∷ record { loading = so_far 2 2; step = Err (Short 5) }
    ∷ record { loading = so_far 2 3; step = (Ok None) } ∷ []

-- ---- calls for readings, of the run "One reading, whole": 3 with place 0 ahead of 16 before the sheet is complete; then 16, the working buffers before those that are filled

pub record Call : Type 0 where
  pub complete : Bool
  pub query : Query
  pub lent : List ℕ
  pub answer : Answer

abbrev pub GivesCall : Call → Type 0
GivesCall c = read_answer c.complete whole_sheet whole_report c.query c.lent ≡ c.answer

abbrev pub early : Query → Call
early q = record { complete = false; query = q; lent = []; answer = refused 3 0 }

abbrev pub call : Query → List ℕ → Answer → Call
call q l a = record { complete = true; query = q; lent = l; answer = a }

-- the working buffers of all calls but the log's
abbrev pub work : List ℕ
work = 224 ∷ 256 ∷ 8192 ∷ 8192 ∷ 4 ∷ 2 ∷ 256 ∷ []

-- nothing to fill for the share; 3 accounts, 1 register, 2 transactions, 2 blocks in the log
abbrev pub calls : List Call
calls =
    early accounts ∷ early registers ∷ early settlements ∷ early share ∷ early log
    ∷ call accounts [] (refused 16 224)
    ∷ call accounts (work ++ 2 ∷ 2 ∷ []) (refused 16 3)
    ∷ call accounts (work ++ 3 ∷ 2 ∷ []) (refused 16 3)
    ∷ call accounts (work ++ 3 ∷ 3 ∷ []) accepted
    ∷ call registers (work ++ 0 ∷ []) (refused 16 1)
    ∷ call registers (work ++ 1 ∷ []) accepted
    ∷ call settlements (work ++ 1 ∷ []) (refused 16 2)
    ∷ call settlements (work ++ 2 ∷ []) accepted
    ∷ call share (set work 6 255) (refused 16 256)
    ∷ call share work accepted
    ∷ call log (255 ∷ 0 ∷ 0 ∷ []) (refused 16 256)
    ∷ call log (256 ∷ 2 ∷ 1 ∷ []) (refused 16 2)
    ∷ call log (256 ∷ 2 ∷ 2 ∷ []) accepted ∷ []
