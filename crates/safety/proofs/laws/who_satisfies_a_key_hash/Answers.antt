use Rattle.safety.proofs.Satisfied.{key_hash_satisfied}
use Rattle.safety.proofs.laws.who_satisfies_a_key_hash.Goals as goal

pub returns : goal.returns
returns c = key_hash_satisfied
