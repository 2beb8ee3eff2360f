use Rattle.std.proofs.Common.{ap, sym, ◌∙◌}
use Rattle.std.specs.Prelude.{option_map, unwrap_or}
use Rattle.claim.specs.Judgement.{age_of}
use Rattle.claim.proofs.claims.Claim.needs_age.Goals as goal

pub returns : goal.returns
returns c = c.unwrap_or.ensures ∙ ap (λ o. unwrap_or (option_map age_of o) 0) (sym c.path.ensures.at)
