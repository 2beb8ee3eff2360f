-- Where what is due in a channel is in hand. And where it is not: a transaction is not found, a claim that is counted is not due, or a claim cannot be filled.
use Rattle.std.proofs.Common.{◌≡◌, Bool, true, false, List, [], ◌∷◌, Some, sym, ap, ◌∙◌, inl, inr, subst}
use Rattle.std.specs.Prelude.{◌⊎◌, slice_get}
use Rattle.std.specs.List.{Contains}
use Rattle.std.proofs.lemmas.Bool.{true≢false}
use Rattle.tx.specs.Fields.{Transaction, unsigned_transaction}
use Rattle.claim.specs.Claims.{ClaimParts}
use Rattle.commit.specs.Commitments.{transaction_of}
use Rattle.penalty.specs.Claimable.{Claimable}
use Rattle.resolve.specs.declared.verdicts.Verdict.{Verdict}
use Rattle.resolve.specs.declared.verdicts.Verdict.TheVariants.{Ours, Theirs, TheirsNext, Revoked, Unknown}
use Rattle.resolve.specs.declared.known.Known.{Known}
use Rattle.resolve.specs.Due.{due_of}
use Rattle.watch.specs.Verdicts.{verdict_of}
use Rattle.channel.specs.declared.commitments.CommitmentState.{CommitmentState}
use Rattle.channel.specs.Tokens.{contents_of}
use Rattle.worth_laws.specs.Counted.{known_by}
use Rattle.worth_laws.specs.Least.{newest, counted_by}
use Rattle.safety.specs.Holdings.{Holding, terms_in, KeepsRules}
use Rattle.safety.proofs.Lists.{contains_none}
use Rattle.due_laws.specs.Breaks.{DuesBreak}
use Rattle.due_laws.specs.Knowing.{IsKnownTo}
use Rattle.due_laws.specs.Verdicts.{IsJudged, rightly, as_own, broken, ClosersAreJudged}
use Rattle.due_laws.specs.Counting.{AreExactly, DuesAreCounted}
use Rattle.due_laws.specs.Filling.{OwnsBases, IsDueBy, CanFillAllSlots, DuesAreFillable}
use Rattle.due_laws.specs.Passing.{FillingsPass}
use Rattle.due_laws.specs.Books.{AreInHand}

abbrev is_unknown : Verdict → Bool
is_unknown Ours = false
is_unknown Theirs = false
is_unknown TheirsNext = false
is_unknown (Revoked n) = false
is_unknown Unknown = true

module _ (h : Holding) (known : Known) where
  -- yes: AreInHand
  in_hand : ClosersAreJudged → DuesAreCounted → DuesAreFillable → FillingsPass → KeepsRules h → OwnsBases h → IsKnownTo h known → AreInHand h known
  in_hand judged counted fillable pass r owns w = record { judged = judged h r known w; counted = counted h r known w; fillable = fillable h r owns known w; pass = pass h r owns known w }

  module _ (k : CommitmentState) (there : slice_get h.state.signed h.state.peer_number ≡ Some k) (none : DuesBreak h.state known.preimages → ⊥) where
    -- no: AreInHand
    not_found : (t : Transaction) → unsigned_transaction t ≡ transaction_of (contents_of (terms_in h) k) → verdict_of known t ≡ Unknown → AreInHand h known → ⊥
    not_found t is e i = by (i.judged t k (newest there) is)
      where
        by : IsJudged h known t k (newest there) → ⊥
        by (rightly f) = true≢false (ap is_unknown (sym e ∙ f))
        by (as_own x j s f) = true≢false (ap is_unknown (sym e ∙ f))
        by (broken x) = none x

    -- no: AreInHand
    counted_and_not_due : (o : Claimable) → due_of known Theirs ≡ [] → Contains (counted_by (known_by known.preimages) (λ _. false) h.state k (newest there)) o → AreInHand h known → ⊥
    counted_and_not_due o e c i = by (i.counted k (newest there))
      where
        by : AreExactly (due_of known Theirs) (λ stands. counted_by (known_by known.preimages) stands h.state k (newest there)) ⊎ DuesBreak h.state known.preimages → ⊥
        by (inl x) = contains_none o (subst (λ (os : List Claimable). Contains os o) e (x.all (λ _. false) o c))
        by (inr x) = none x

  -- no: AreInHand
  not_fillable : (x : ClaimParts) → IsDueBy known x → (CanFillAllSlots h known (x ∷ []) → ⊥) → AreInHand h known → ⊥
  not_fillable x d n i = n (i.fillable (x ∷ []) (d, tt))
