-- The contract can be met: the plain ledger itself, with the rules' outcomes, is an engine that keeps to it.
-- Assumes nothing.
use lib.ListN.{length, length-replicate, length-set}
use mathlib.Core.List.{List, [], ◌∷◌, foldl}
use mathlib.Core.Path.{◌∙◌, ◌≡◌, ap, refl, subst, sym}
use Rattle.escrow.proofs.Growth.{outcome_grown}
use Rattle.escrow.proofs.Outcomes.{outcome-is}
use Rattle.escrow.specs.Outcome.{outcome}
use Rattle.plain.proofs.Admits.{Admits, admitted}
use Rattle.plain.proofs.AnswerLaws.{accepted_of}
use Rattle.plain.proofs.Follow.{block-accepted, empty-height}
use Rattle.plain.proofs.Kept.{Kept, grown_extends, kept_fresh, kept_more, proper}
use Rattle.plain.proofs.Lists.{list_grown}
use Rattle.plain.specs.Answer.{accepted, is_accepted}
use Rattle.plain.specs.Plain.{answer, answers, answers_from, next}
use Rattle.sums.proofs.TestLaws.{by-pick, pick-false, pick_true}
use Rattle.plain.proofs.Engine.{Answered, Calls, Engine, Grown, Run, Taken, offer, stop}
use Rattle.plain.specs.Logs.{Logs, Values, appended, block_from, empty_logs, history_of}
use Rattle.plain.specs.Offers.{Offer, offered}
use Rattle.sheets.proofs.ProperLaws.{ProperSheet}
use Rattle.sheets.specs.Sheet.{Sheet}

unfoldable pub plain_engine : Sheet → Logs → Engine
plain_engine S L = record { past = history_of L; flag = outcome S (history_of L) }

-- the plain ledger's logs, as an engine's, follow themselves
module _ (S : Sheet) (Q : ProperSheet S) (L : Logs) (wide : length L ≡ S.m) (K : Kept S (history_of L)) (o : Offer) where
  taken : answer S (history_of L) o ≡ accepted → Taken S (offered S o) (plain_engine S L) (plain_engine S (appended L (offered S o).instance (block_from (offered S o))))
  unfolding plain_engine
  taken e =
      let b : Values = offered S o in
      let A : Admits S (history_of L) b = admitted S (history_of L) b (block-accepted S (history_of L) o e) in
      let G : Grown S.m b (history_of L) (history_of (appended L b.instance (block_from b))) = list_grown L b (rw wide A.there) S.m Q.small in
      let K' : Kept S (history_of (appended L b.instance (block_from b))) = kept_more S Q.few (history_of L) _ b K A G in
      record {
        grown = G;
        old = λ c w. outcome_grown S Q.some (history_of L) _ (proper S _ K) (proper S _ K') (grown_extends S Q.few (history_of L) _ b K A G) c w;
        new = λ c w h. outcome-is S _ (proper S _ K') Q.some c w;
      }

  pub plain_answered : Answered S o (answer S (history_of L) o) (plain_engine S L) (plain_engine S (next S L o))
  unfolding plain_engine next
  plain_answered = record {
    says = refl;
    takes = λ t. subst (λ (M : Logs). Taken S (offered S o) (plain_engine S L) (plain_engine S M)) (sym (pick_true (is_accepted (answer S (history_of L) o)) _ _ t)) (taken (accepted_of _ t));
    leaves = λ t. ap (plain_engine S) (pick-false (is_accepted (answer S (history_of L) o)) _ _ t);
  }

  pub plain_wide : length (next S L o) ≡ S.m
  unfolding next appended
  plain_wide = by-pick (λ (M : Logs). length M ≡ S.m) (is_accepted (answer S (history_of L) o)) (λ t. length-set L (offered S o).instance _ ∙ wide) (λ t. wide)

  pub plain_kept : Kept S (history_of (next S L o))
  unfolding next
  plain_kept = by-pick (λ (M : Logs). Kept S (history_of M)) (is_accepted (answer S (history_of L) o))
      (λ t.
      let b : Values = offered S o in
      let A : Admits S (history_of L) b = admitted S (history_of L) b (block-accepted S (history_of L) o (accepted_of _ t)) in
      kept_more S Q.few (history_of L) _ b K A (list_grown L b (rw wide A.there) S.m Q.small))
      (λ t. K)

plain_calls : (S : Sheet) → ProperSheet S → (L : Logs) → length L ≡ S.m → Kept S (history_of L) → (l : List Offer)
    → Calls S (plain_engine S L) l (answers_from S L l) (plain_engine S (foldl (next S) L l))
unfolding answers_from
plain_calls S Q L w K [] = stop
plain_calls S Q L w K (o ∷ l) = offer (plain_answered S Q L w K o) (plain_calls S Q (next S L o) (plain_wide S Q L w K o) (plain_kept S Q L w K o) l)

-- every list of offers has a run
pub runs : (S : Sheet) → ProperSheet S → (l : List Offer) → (s : Engine) × Run S l (answers S l) s
unfolding answers
runs S Q l = (
  plain_engine S (foldl (next S) (empty_logs S) l),
  record {
    first = plain_engine S (empty_logs S);
    fresh = λ j u. unfold plain_engine in empty-height S j u;
    calls = plain_calls S Q (empty_logs S) (length-replicate S.m []) (kept_fresh S (history_of (empty_logs S)) (empty-height S)) l;
  },
)
