-- What `filling` answers of what is asked, and the plan.
use Rattle.std.proofs.Common.{◌≡◌, ℕ, ◌-◌, List, Some, None, sym, ap, ◌∙◌, subst}
use Rattle.std.specs.Prelude.{option_map}
use Rattle.claim.specs.Claims.{ClaimParts}
use Rattle.filling.specs.declared.errors.SpendError.{SpendError}
use Rattle.filling.specs.declared.errors.SpendError.TheVariants as spends
use Rattle.filling.specs.declared.missing.MissingSignature.{MissingSignature}
use Rattle.filling.specs.Refusals.{total_claimed}
use Rattle.filling.specs.Spends.{unsigned_spend_of, first_spend_refusal, IsSpendRefusal, IsUnsignedSpend}
use Rattle.tx.specs.Parts.{Output}
use Rattle.tx.specs.Fields.{Transaction}
use Rattle.spend.specs.declared.asking.Asked.{Asked}
use Rattle.spend.specs.declared.plans.Plan.{Plan}
use Rattle.spend.specs.Refusals.{plan_error}
use Rattle.spend.specs.Weights.{greatest_weight, fee_at}
use Rattle.spend.specs.Planning.{paying, spend_refusal, asked_weight, asked_fee, first_of, payment_refusal, IsPlan, UnlessMemory}
use Rattle.spend.proofs.SameWeights.{same_weight}

-- ---- refusals

-- a refusal of `filling`
pub refused : (a : Asked) (claims : List ClaimParts) (outputs : List Output) (ps : List (List ℕ)) (v : ℕ) (e : SpendError) → claims ≡ a.claims → outputs ≡ paying v a.destination → ps ≡ a.preimages
    → IsSpendRefusal (first_spend_refusal claims outputs ps) e → UnlessMemory (plan_error e) (spend_refusal a v ≡ Some (plan_error e))
refused a claims outputs ps v e c o p h = go e (subst (λ xs. IsSpendRefusal (first_spend_refusal a.claims (paying v a.destination) xs) e) p (subst (λ xs. IsSpendRefusal (first_spend_refusal a.claims xs ps) e) o (subst (λ xs. IsSpendRefusal (first_spend_refusal xs outputs ps) e) c h)))
  where
    go : (e : SpendError) → IsSpendRefusal (first_spend_refusal a.claims (paying v a.destination) a.preimages) e → UnlessMemory (plan_error e) (spend_refusal a v ≡ Some (plan_error e))
    go spends.NoMemory h = tt
    go spends.FixedTransaction h = ap (option_map plan_error) h
    go spends.SameOutpoint h = ap (option_map plan_error) h
    go spends.OutputsExceed h = ap (option_map plan_error) h
    go spends.MeasuredSignature h = ap (option_map plan_error) h
    go spends.NoPreimage h = ap (option_map plan_error) h

-- a spend of `filling`
pub spent : (a : Asked) (claims : List ClaimParts) (outputs : List Output) (ps : List (List ℕ)) (v : ℕ) (t : Transaction) (ms : List MissingSignature) → claims ≡ a.claims → outputs ≡ paying v a.destination → ps ≡ a.preimages
    → IsUnsignedSpend claims outputs ps t ms → IsUnsignedSpend a.claims (paying v a.destination) a.preimages t ms
spent a claims outputs ps v t ms c o p h =
    subst (λ xs. IsUnsignedSpend a.claims (paying v a.destination) xs t ms) p (subst (λ xs. IsUnsignedSpend a.claims xs ps t ms) o (subst (λ xs. IsUnsignedSpend xs outputs ps t ms) c h))

-- ---- the plan

pub planned : (a : Asked) (p : Plan) (v : ℕ) → spend_refusal a 0 ≡ None → p.weight ≡ asked_weight a → p.fee_sat ≡ fee_at a.feerate_per_kw p.weight
    → payment_refusal a p.fee_sat ≡ None → v ≡ total_claimed a.claims - p.fee_sat
    → IsUnsignedSpend a.claims (paying v a.destination) a.preimages p.spend.tx p.spend.signatures → IsPlan a p
planned a p v passed w f paid is s =
    let same = same_weight a.claims a.destination a.preimages 0 v in
    let fee : p.fee_sat ≡ asked_fee a = f ∙ ap (fee_at a.feerate_per_kw) w in
    record {
      passed = ap (λ o. first_of o (payment_refusal a (asked_fee a))) passed ∙ ap (payment_refusal a) (sym fee) ∙ paid;
      weight = w ∙ same ∙ sym (ap (λ u. greatest_weight u p.spend.signatures) s.unsigned ∙ ap (greatest_weight (unsigned_spend_of a.claims (paying v a.destination) a.preimages)) s.missing);
      fee = f;
      spends = subst (λ n. IsUnsignedSpend a.claims (paying n a.destination) a.preimages p.spend.tx p.spend.signatures) is s;
    }
