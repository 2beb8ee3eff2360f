use Rattle.std.proofs.Common.{Some, None, refl}
use Rattle.std.proofs.lemmas.Bool.{false≢true}
use Rattle.terms.proofs.Agreed.{some_terms, made_of, none_of}
use Rattle.terms.proofs.proposals.ProposedTerms.agreed.Goals as goal

pub returns-in-Ok-clause-terms : goal.returns-in-Ok-clause-terms
returns-in-Ok-clause-terms c =
    let i = c.args in
    made_of i.funding i.a i.b i.self.now c.party_of-a.result c.party_of-b.result c.party_of-a.ensures c.party_of-b.ensures c.in-Ok.terms (c.in-Ok.ensures.ok.0 refl) c.in-Ok.ensures.fields

pub returns-in-Err-clause-terms : goal.returns-in-Err-clause-terms
returns-in-Err-clause-terms c =
    let i = c.args in
    none_of i.funding i.a i.b i.self.now c.party_of-a.result c.party_of-b.result c.party_of-a.ensures c.party_of-b.ensures (λ h. false≢true (c.in-Err.ensures.ok.1 h))

pub returns-in-Ok-clause-some : goal.returns-in-Ok-clause-some
returns-in-Ok-clause-some c =
    let i = c.args in
    some_terms i.funding i.a i.b i.self.now (Some c.in-Ok.terms)
    (made_of i.funding i.a i.b i.self.now c.party_of-a.result c.party_of-b.result c.party_of-a.ensures c.party_of-b.ensures c.in-Ok.terms (c.in-Ok.ensures.ok.0 refl) c.in-Ok.ensures.fields)

pub returns-in-Err-clause-some : goal.returns-in-Err-clause-some
returns-in-Err-clause-some c =
    let i = c.args in
    some_terms i.funding i.a i.b i.self.now None
    (none_of i.funding i.a i.b i.self.now c.party_of-a.result c.party_of-b.result c.party_of-a.ensures c.party_of-b.ensures (λ h. false≢true (c.in-Err.ensures.ok.1 h)))
