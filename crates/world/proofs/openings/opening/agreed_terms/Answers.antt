use Rattle.world.proofs.Keyed.{are_terms, have_keys}
use Rattle.world.proofs.openings.opening.agreed_terms.Goals as goal

pub returns-clause-terms : goal.returns-clause-terms
returns-clause-terms c =
    let i = c.args in
    are_terms i.seeds.now i.channel i.outpoint i.plain.now c.agreed.result c.bases_in-a.result c.bases_in-b.result c.bases_in-a.ensures c.bases_in-b.ensures c.agreed.ensures.fields

pub returns-clause-keys : goal.returns-clause-keys
returns-clause-keys c =
    let i = c.args in
    have_keys i.seeds.now i.channel i.outpoint i.plain.now c.agreed.result
    (are_terms i.seeds.now i.channel i.outpoint i.plain.now c.agreed.result c.bases_in-a.result c.bases_in-b.result c.bases_in-a.ensures c.bases_in-b.ensures c.agreed.ensures.fields)
