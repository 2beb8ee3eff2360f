-- Nothing that a node counts on stands after a close without being told.
use Rattle.std.proofs.Common.{◌≡◌, List, map, sym, ap, ◌∙◌, subst, inl, inr}
use Rattle.std.specs.Prelude.{◌⊎◌}
use Rattle.std.specs.List.{Contains}
use Rattle.penalty.specs.Claimable.{Claimable}
use Rattle.penalty.specs.Sets.{claimed_by}
use Rattle.resolve.specs.declared.verdicts.Verdict.{Verdict}
use Rattle.resolve.specs.declared.verdicts.Verdict.TheVariants.{Ours}
use Rattle.resolve.specs.Due.{due_of}
use Rattle.watch.specs.Verdicts.{verdict_of}
use Rattle.sights.proofs.Staying.{claims_by}
use Rattle.worth_laws.specs.Counted.{known_by}
use Rattle.worth_laws.specs.Least.{counted_by}
use Rattle.due_laws.specs.Breaks.{DuesBreak}
use Rattle.due_laws.specs.Counting.{AreExactly}
use Rattle.due_laws.specs.Verdicts.{verdict_by, IsJudged, rightly, as_own, broken}
use Rattle.due_laws.specs.Telling.{CountedAreTold}

pub counted_are_told : CountedAreTold
counted_are_told h known hand ss s at k m same told is stands o i = by (hand.judged s.tx k m same) (hand.counted k m)
  where
    by : IsJudged h known s.tx k m → AreExactly (due_of known (verdict_by h.state k m)) (λ b. counted_by (known_by known.preimages) b h.state k m) ⊎ DuesBreak h.state known.preimages
        → Contains (map (λ x. claimed_by x.claim) told) o ⊎ (verdict_of known s.tx ≡ Ours) ⊎ DuesBreak h.state known.preimages
    by (broken b) counts = inr (inr b)
    by (as_own own there equal v) counts = inr (inl v)
    by (rightly v) (inr b) = inr (inr b)
    by (rightly v) (inl exactly) =
        inl (subst (λ (os : List Claimable). Contains os o) (sym (claims_by ss known s told at is ∙ ap (λ (w : Verdict). due_of known w) v)) (exactly.all stands o i))
