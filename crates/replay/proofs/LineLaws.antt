-- The line of an answer, arm by arm.
-- Assumes nothing.
use Prim.Native.Nat.{ℕ}
use mathlib.Core.List.{List, []}
use mathlib.Core.Path.{◌≡◌, refl, sym}
use Rattle.frames.specs.Block as frames
use Rattle.frames.specs.declared.block.Block.{Block}
use Rattle.frames.specs.Frame.{Framed}
use Rattle.offers.specs.Offering.{reply_of}
use Rattle.offers.specs.declared.answer.Answer.{Answer}
use Rattle.plain.specs.Offers.{values_in}
use Rattle.refusals.specs.Refusals.{refusal_number, refusal_place}
use Rattle.refusals.specs.declared.Refusal.{Refusal}
use Rattle.replay.specs.Reading.{answer_line, end_of, ends_output}
use Rattle.text.specs.Lines.{ok_line, refused_line}

pub ok_is : (body b : List ℕ) (m : ℕ) (B : Block) (a : Answer) → B ≡ frames.block_of b m → b ≡ body → a ≡ Answer.Accepted
    → ok_line B.instance B.sequence.0 ≡ answer_line (values_in body m) (reply_of a)
unfolding answer_line frames.block_of
ok_is body b m B a e q h = rw (e, q, h) refl

pub refused_is : (body : List ℕ) (m n p : ℕ) (x : Refusal) (a : Answer) → n ≡ refusal_number x → p ≡ refusal_place x → a ≡ Answer.Refused x → refused_line n p ≡ answer_line (values_in body m) (reply_of a)
unfolding answer_line
refused_is body m n p x a e q h = rw (e, q, h) refl

pub none_is : (body : List ℕ) (m : ℕ) (a : Answer) → a ≡ Answer.NoByte → ◌≡◌ {A = List ℕ} [] (answer_line (values_in body m) (reply_of a))
unfolding answer_line
none_is body m a h = rw h refl

-- whether it ends the output, arm by arm
pub ends_as : (a b : Answer) → a ≡ b → ends_output (reply_of b) ≡ ends_output (reply_of a)
ends_as a b h = rw h refl

-- where a frame ends, arm by arm
pub end_as : (f g h : Framed) (at : ℕ) → f ≡ g → f ≡ h → end_of h at ≡ end_of g at
end_as f g h at e q = rw (sym e, q) refl
