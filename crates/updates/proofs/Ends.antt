-- The fate of an HTLC after any number of updates, from the position of the first one that removes it. So code may keep one entry for each
-- HTLC instead of scanning all updates.
use Rattle.std.proofs.Common.{◌≡◌, ℕ, zero, suc, ◌<◌, ◌≤◌, cond, ltb, ◌⊎◌, inl, inr, List, [], ◌∷◌, ◌++◌, take, length, sym, ap, ◌∙◌, refl, arith}
use Rattle.std.proofs.lemmas.Bool.{cond-true, cond-false, lt-ltb, le-ltb, cases_lt}
use Rattle.updates.specs.declared.changes.Update.{Update}
use Rattle.updates.specs.declared.fates.Fate.{Fate}
use Rattle.updates.specs.declared.fates.Fate.TheVariants.{Live, Fulfilled, Failed}
use Rattle.updates.specs.declared.fates.End.{End}
use Rattle.updates.specs.declared.fates.End.TheVariants.{Never, At}
use Rattle.updates.specs.Updates.{fate_by, first_of_fates, fate}
use Rattle.updates.specs.Ends.{later, end_from, end_of, within, end_after}

within_later : (k : ℕ) (e : End) → within (suc k) (later e) ≡ within k e
within_later k Never = refl
within_later k (At p f) = by (cases_lt p k)
  where
    by : (p < k) ⊎ (k ≤ p) → cond (ltb (suc p) (suc k)) f Live ≡ cond (ltb p k) f Live
    by (inl l) = cond-true _ f Live (lt-ltb (suc p) (suc k) (omega (arith, l))) ∙ sym (cond-true _ f Live (lt-ltb p k l))
    by (inr l) = cond-false _ f Live (le-ltb (suc p) (suc k) (omega (arith, l))) ∙ sym (cond-false _ f Live (le-ltb p k l))

within_none : (e : End) → within 0 e ≡ Live
within_none Never = refl
within_none (At p f) = cond-false _ f Live (le-ltb p 0 (omega arith))

within_first : (k : ℕ) (f : Fate) (e : End) (g : Fate) → g ≡ within k e → first_of_fates f g ≡ within (suc k) (end_from f e)
within_first k Live e g h = h ∙ sym (within_later k e)
within_first k Fulfilled e g h = sym (cond-true _ Fulfilled Live (lt-ltb 0 (suc k) (omega arith)))
within_first k Failed e g h = sym (cond-true _ Failed Live (lt-ltb 0 (suc k) (omega arith)))

pub fate_within : (id k : ℕ) (us : List Update) → fate id (take k us) ≡ within k (end_of id us)
fate_within id zero us = sym (within_none (end_of id us))
fate_within id (suc k) [] = refl
fate_within id (suc k) (u ∷ us) = within_first k (fate_by id u) (end_of id us) (fate id (take k us)) (fate_within id k us)

later_after : (n : ℕ) (e : End) (g : Fate) → later (end_after n e g) ≡ end_after (suc n) (later e) g
later_after n (At p f) g = refl
later_after n Never Live = refl
later_after n Never Fulfilled = refl
later_after n Never Failed = refl

step : (n : ℕ) (f : Fate) (e d : End) (g : Fate) → d ≡ end_after n e g → end_from f d ≡ end_after (suc n) (end_from f e) g
step n Live e d g h = ap later h ∙ later_after n e g
step n Fulfilled e d g h = refl
step n Failed e d g h = refl

pub end_of-push : (id : ℕ) (us : List Update) (u : Update) → end_of id (us ++ u ∷ []) ≡ end_after (length us) (end_of id us) (fate_by id u)
end_of-push id [] u = first (fate_by id u)
  where
    first : (f : Fate) → end_from f Never ≡ end_after 0 Never f
    first Live = refl
    first Fulfilled = refl
    first Failed = refl
end_of-push id (v ∷ us) u = step (length us) (fate_by id v) (end_of id us) (end_of id (us ++ u ∷ [])) (fate_by id u) (end_of-push id us u)
