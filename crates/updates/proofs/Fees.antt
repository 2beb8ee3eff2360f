-- The newest fee of a list that grows, and of its parts.
use Rattle.std.proofs.Common.{◌≡◌, ℕ, List, [], ◌∷◌, ◌++◌, length, take, sym, ap, ◌∙◌, refl, arith, Option, Some, None, length-append}
use Rattle.std.proofs.lemmas.List.{take-append-le}
use Rattle.updates.specs.declared.changes.Update.{Update}
use Rattle.updates.specs.declared.stages.Part.{Part}
use Rattle.updates.specs.Updates.{feerate_per_kw_set_by, later_feerate_per_kw, newest_feerate_per_kw}
use Rattle.updates.specs.Stages.{IsPartOf, Counts}
use Rattle.updates.specs.Steady.{IsBeginning}

later_of_three : (f g h : Option ℕ) → later_feerate_per_kw f (later_feerate_per_kw g h) ≡ later_feerate_per_kw (later_feerate_per_kw f g) h
later_of_three f g None = refl
later_of_three f g (Some r) = refl

later_none : (f : Option ℕ) → later_feerate_per_kw None f ≡ f
later_none None = refl
later_none (Some r) = refl

pub newest_fee-push : (us : List Update) (u : Update) → later_feerate_per_kw (newest_feerate_per_kw us) (feerate_per_kw_set_by u) ≡ newest_feerate_per_kw (us ++ u ∷ [])
newest_fee-push [] u = later_none (feerate_per_kw_set_by u)
newest_fee-push (v ∷ us) u = sym (later_of_three (feerate_per_kw_set_by v) (newest_feerate_per_kw us) (feerate_per_kw_set_by u)) ∙ ap (later_feerate_per_kw (feerate_per_kw_set_by v)) (newest_fee-push us u)

pub part_on : (us : List Update) (u : Update) (p : Part) → IsPartOf us p → IsPartOf (us ++ u ∷ []) p
part_on us u p h =
    let l = h.within in
    record { within = (let g = length-append us (u ∷ []) in omega (arith, g, l)); feerate_per_kw = h.feerate_per_kw ∙ ap newest_feerate_per_kw (sym (take-append-le p.count us (u ∷ []) l)) }

take_length : (xs rest : List Update) → take (length xs) (xs ++ rest) ≡ xs
take_length [] rest = refl
take_length (x ∷ xs) rest = ap (λ l. x ∷ l) (take_length xs rest)

-- a counted part is the beginning of the whole of that length
pub part_is : (part : Part) (us whole : List Update) → Counts part us → IsBeginning us whole → take part.count whole ≡ us
part_is part us whole c b = ap (λ n. take n whole) c.count ∙ ap (take (length us)) (sym b.1) ∙ take_length us b.0
