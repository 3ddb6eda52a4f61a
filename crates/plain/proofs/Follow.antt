-- An engine that keeps to its contract follows the plain ledger, call by call.
-- Assumes nothing.
use Prim.Native.Nat.{◌<◌, ℕ}
use lib.ListN.{get_or-replicate, length, length-replicate, length-set}
use mathlib.Core.Bool.{Bool, false, true}
use mathlib.Core.List.{List, [], ◌∷◌, foldl}
use mathlib.Core.Path.{◌∙◌, ◌≡◌, ap, ap₂, refl, subst, sym}
use native.Mathlib.Omega.{arith}
use Rattle.escrow.proofs.Growth.{flags_grown}
use Rattle.escrow.specs.Outcome.{Citation, History, InLogs, outcome}
use Rattle.plain.proofs.Admits.{Admits, admitted}
use Rattle.plain.proofs.Alike.{answer-alike, grown_alike}
use Rattle.plain.proofs.AnswerLaws.{accepted_of, then_pass}
use Rattle.plain.proofs.Kept.{Kept, grown_extends, kept_fresh, kept_more, proper}
use Rattle.plain.proofs.Lists.{list_grown}
use Rattle.plain.specs.Answer.{Answer, accepted, is_accepted}
use Rattle.plain.specs.Plain.{answer, answers_from, block_answer, next}
use Rattle.sums.proofs.TestLaws.{pick-false, pick_true}
use Rattle.sums.specs.Test.{pick}
use Rattle.plain.proofs.Engine.{Alike, Answered, Calls, Engine, Grown, Taken, offer, other, stop}
use Rattle.plain.specs.Logs.{Logs, Values, appended, block_from, empty_logs, history_of}
use Rattle.plain.specs.Offers.{Offer, offered}
use Rattle.sheets.proofs.ProperLaws.{ProperSheet}
use Rattle.sheets.specs.Sheet.{Sheet}

-- the engine's state s, and the plain ledger's logs L
pub record Follows (S : Sheet) (s : Engine) (L : Logs) : Type 0 where
  pub wide : length L ≡ S.m
  pub kept : Kept S s.past
  pub plain : Kept S (history_of L)
  pub alike : Alike S.m s.past (history_of L)
  pub own : (c : Citation) → InLogs S s.past c → s.flag c ≡ outcome S s.past c

pub block-accepted : (S : Sheet) (H : History) (o : Offer) → answer S H o ≡ accepted → block_answer S H (offered S o) ≡ accepted
unfolding answer
block-accepted S H o e = (then_pass _ _ (then_pass _ _ (then_pass _ _ e).1).1).1

module _ (S : Sheet) (Q : ProperSheet S) (s s' : Engine) (L : Logs) (o : Offer) (a : Answer) (p : Answered S o a s s') (F : Follows S s L) where
  pub same_answer : a ≡ answer S (history_of L) o
  same_answer = p.says ∙ answer-alike S s.past (history_of L) o F.alike

  taken : is_accepted a ≡ true → Follows S s' (appended L (offered S o).instance (block_from (offered S o)))
  taken t =
      let b : Values = offered S o in
      let e : a ≡ accepted = accepted_of a t in
      let A : Admits S s.past b = admitted S s.past b (block-accepted S s.past o (sym p.says ∙ e)) in
      let A' : Admits S (history_of L) b = admitted S (history_of L) b (block-accepted S (history_of L) o (sym same_answer ∙ e)) in
      let T : Taken S b s s' = p.takes t in
      let G : Grown S.m b (history_of L) (history_of (appended L b.instance (block_from b))) = list_grown L b (rw F.wide A.there) S.m Q.small in
      let K : Kept S s'.past = kept_more S Q.few s.past s'.past b F.kept A T.grown in
      record {
        wide = unfold appended in (length-set L b.instance _ ∙ F.wide);
        kept = K;
        plain = kept_more S Q.few (history_of L) _ b F.plain A' G;
        alike = grown_alike S.m b s.past (history_of L) s'.past _ A.there F.alike T.grown G;
        own = flags_grown S Q.some s.past s'.past (proper S _ F.kept) (proper S _ K)
            (grown_extends S Q.few s.past s'.past b F.kept A T.grown) s'.flag
            (λ c w. T.old c w ∙ F.own c w) T.new;
      }

  pub follows_next : Follows S s' (next S L o)
  unfolding next
  follows_next = go (is_accepted a) refl
    where
      go : (t : Bool) → is_accepted a ≡ t → Follows S s' (pick (is_accepted (answer S (history_of L) o)) (appended L (offered S o).instance (block_from (offered S o))) L)
      go true t = subst (Follows S s') (sym (pick_true _ _ _ (ap is_accepted (sym same_answer) ∙ t))) (taken t)
      go false t = subst (Follows S s') (sym (pick-false _ _ _ (ap is_accepted (sym same_answer) ∙ t))) (subst (λ (z : Engine). Follows S z L) (sym (p.leaves t)) F)

pub record Followed (S : Sheet) (L : Logs) (l : List Offer) (r : List Answer) (s : Engine) : Type 0 where
  pub answers : r ≡ answers_from S L l
  pub follows : Follows S s (foldl (next S) L l)

pub follow : (S : Sheet) → ProperSheet S → (s : Engine) (L : Logs) (l : List Offer) (r : List Answer) (s' : Engine) → Calls S s l r s' → Follows S s L → Followed S L l r s'
unfolding answers_from
follow S Q s L l r s' stop F = record { answers = refl; follows = F }
follow S Q s L l r s' (offer {s' = t} {o = o} {a = a} {l = l'} {r = r'} p q) F =
    let f : Followed S (next S L o) l' r' s' = follow S Q t (next S L o) l' r' s' q (follows_next S Q s t L o a p F) in
    record { answers = ap₂ (λ (x : Answer) (y : List Answer). x ∷ y) (same_answer S Q s t L o a p F) f.answers; follows = f.follows }
follow S Q s L l r s' (other {s' = t} e q) F = follow S Q t L l r s' q (subst (λ (z : Engine). Follows S z L) (sym e) F)

pub empty-height : (S : Sheet) (j : ℕ) → j < S.m → (history_of (empty_logs S)).height j ≡ 0
unfolding history_of
empty-height S j l = ap length (get_or-replicate S.m j [] [] l)

pub follows_fresh : (S : Sheet) (s : Engine) → ((j : ℕ) → j < S.m → s.past.height j ≡ 0) → Follows S s (empty_logs S)
follows_fresh S s z = record {
  wide = length-replicate S.m [];
  kept = kept_fresh S s.past z;
  plain = kept_fresh S (history_of (empty_logs S)) (empty-height S);
  alike = record {
    heights = λ j l. z j l ∙ sym (empty-height S j l);
    ranks = λ j n l u. absurd (omega (arith, z j l));
    entries = λ j n e l u k. absurd (omega (arith, z j l));
    cells = λ j p l u. absurd (omega (arith, z j l));
  };
  own = λ c w. absurd (omega (arith, w.1, z c.instance w.0));
}
