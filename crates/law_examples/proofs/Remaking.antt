-- Updates that could be made again after a cut, and what a receiver knows of a sender's.
use Rattle.std.proofs.Common.{◌≡◌, List, [], ◌∷◌, ◌++◌, length, Some, None, sym, ap, ◌∙◌, refl, subst, arith, length-append}
use Rattle.terms.specs.declared.agreement.Terms.{Terms}
use Rattle.terms.specs.declared.sides.Side.{Side}
use Rattle.updates.specs.declared.changes.Update.{Update}
use Rattle.updates.specs.declared.errors.ChannelError.TheVariants.{OverBalance}
use Rattle.updates.specs.Stages.{Stages, uncommitted}
use Rattle.updates.specs.Refusals.{first_refusal}
use Rattle.updates.specs.Steady.{Held, IsBeginning, KnowsMore, own_tests, holding_none, holding_made, holding_committed}
use Rattle.updates.specs.Remade.{IsHolding, nothing, cut_off, CanMake, CanRemake, UncommittedAreRemade}

module _ (u v : Update) where
  -- yes: IsBeginning
  first_alone : IsBeginning (u ∷ []) (u ∷ v ∷ [])
  first_alone = (v ∷ [], refl)

  -- no: IsBeginning
  more_than_all : IsBeginning (u ∷ v ∷ []) (u ∷ []) → ⊥
  more_than_all b =
      let l = ap length b.1 in
      let m = length-append (u ∷ v ∷ []) b.0 in
      omega (arith, l, m)

module _ (h : Held) (u v : Update) where
  -- one after the other, the second where the first was made
  -- yes: CanMake
  both_made : first_refusal (own_tests h u) ≡ None → first_refusal (own_tests (holding_made u h) v) ≡ None → CanMake h (u ∷ v ∷ [])
  both_made e f = (e, (f, tt))

  -- no: CanMake
  second_refused : first_refusal (own_tests (holding_made u h) v) ≡ Some OverBalance → CanMake h (u ∷ v ∷ []) → ⊥
  second_refused e c = let f : None ≡ Some OverBalance = sym c.1.0 ∙ e in cc

  -- what no signature covers, where the cut left what one does
  -- yes: CanRemake
  made_again : uncommitted h.own ≡ u ∷ [] → first_refusal (own_tests (holding_committed h) u) ≡ None → CanRemake h
  made_again e f = subst (CanMake (holding_committed h)) (sym e) (f, tt)

  -- no: CanRemake
  refused_again : uncommitted h.own ≡ u ∷ [] → first_refusal (own_tests (holding_committed h) u) ≡ Some OverBalance → CanRemake h → ⊥
  refused_again e f c =
      let d : CanMake (holding_committed h) (u ∷ []) = subst (CanMake (holding_committed h)) e c in
      let g : None ≡ Some OverBalance = sym d.0 ∙ f in
      cc

  -- no: IsHolding
  never_held : UncommittedAreRemade → uncommitted h.own ≡ u ∷ [] → first_refusal (own_tests (holding_committed h) u) ≡ Some OverBalance → IsHolding h → ⊥
  never_held law e f i = refused_again e f (law h i)

-- yes: IsHolding
cut_at_first : (terms : Terms) (side : Side) → IsHolding (holding_committed (holding_none terms side))
cut_at_first terms side = cut_off (nothing terms side)

module _ (sender others : Stages) (u : Update) where
  -- of the other side's updates one more is known, and one more is settled
  -- yes: KnowsMore
  knows_more : others.known ≡ [] → others.settled ≡ [] → KnowsMore sender others sender (record others { known = u ∷ []; settled = u ∷ [] })
  knows_more e f = record { known = refl; settled = refl; others_known = (u ∷ [], ap (λ (us : List Update). us ++ u ∷ []) e); others_settled = (u ∷ [], ap (λ (us : List Update). us ++ u ∷ []) f) }

  -- no: KnowsMore
  knows_less : others.known ≡ u ∷ [] → KnowsMore sender others sender (record others { known = [] }) → ⊥
  knows_less e k =
      let l = ap length k.others_known.1 in
      let m = length-append others.known k.others_known.0 in
      let n = ap length e in
      omega (arith, l, m, n)

  -- no: KnowsMore
  sender_knows_more : sender.known ≡ [] → KnowsMore sender others (record sender { known = u ∷ [] }) others → ⊥
  sender_knows_more e k = let l = ap length (k.known ∙ e) in omega (arith, l)
