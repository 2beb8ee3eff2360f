-- The base keys in the terms of a channel are those of its two signers.
use Rattle.std.proofs.Common.{◌≡◌, ℕ, Option, Some, None, sym, subst}
use Rattle.std.specs.Prelude.{IfSome}
use Rattle.tx.specs.declared.input.OutPoint.{OutPoint}
use Rattle.terms.specs.declared.sides.Side.TheVariants.{A, B}
use Rattle.terms.specs.declared.agreement.BaseKeys.{BaseKeys}
use Rattle.terms.specs.declared.agreement.Party.{Party}
use Rattle.terms.specs.declared.agreement.Terms.{Terms}
use Rattle.terms.specs.declared.proposals.ProposedTerms.{ProposedTerms}
use Rattle.terms.specs.Agreement.{HasFields}
use Rattle.terms.specs.Bases.{IsSeedOf}
use Rattle.terms.specs.Proposals.{party_of}
use Rattle.book.specs.Seeds.{bases_of, are_seeds}
use Rattle.scenario.specs.declared.seeds.Seeds.{Seeds}
use Rattle.world.specs.Opening.{seed_in, AreTermsOf, HaveKeys}

-- if the base keys are those of the two signers, so are those of the terms
pub are_terms : (seeds : Seeds) (c : ℕ) (o : OutPoint) (p : ProposedTerms) (r : Option Terms) (a b : BaseKeys) → a ≡ bases_of (seed_in seeds c A) → b ≡ bases_of (seed_in seeds c B)
    → IfSome r (λ t. HasFields t o p.capacity_sat p.opener p.feerate_per_kw (party_of p.a a) (party_of p.b b)) → IfSome r (AreTermsOf seeds c o p)
are_terms seeds c o p r a b ea eb fields =
    subst (λ (x : BaseKeys). IfSome r (λ t. HasFields t o p.capacity_sat p.opener p.feerate_per_kw (party_of p.a x) (party_of p.b (bases_of (seed_in seeds c B))))) ea
    (subst (λ (x : BaseKeys). IfSome r (λ t. HasFields t o p.capacity_sat p.opener p.feerate_per_kw (party_of p.a a) (party_of p.b x))) eb fields)

keyed : (seeds : Seeds) (c : ℕ) (o : OutPoint) (p : ProposedTerms) (t : Terms) → AreTermsOf seeds c o p t → HaveKeys seeds c t
keyed seeds c o p t h A = subst (λ (x : Party). IsSeedOf (seed_in seeds c A) x.bases) (sym h.a_is) (are_seeds (seed_in seeds c A))
keyed seeds c o p t h B = subst (λ (x : Party). IsSeedOf (seed_in seeds c B) x.bases) (sym h.b_is) (are_seeds (seed_in seeds c B))

pub have_keys : (seeds : Seeds) (c : ℕ) (o : OutPoint) (p : ProposedTerms) (r : Option Terms) → IfSome r (AreTermsOf seeds c o p) → IfSome r (HaveKeys seeds c)
have_keys seeds c o p None h = h
have_keys seeds c o p (Some t) h = keyed seeds c o p t h
