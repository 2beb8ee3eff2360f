use Rattle.std.proofs.Common.{sym, subst}
use Rattle.secrets.specs.Inserted.{AreOfSeed}
use Rattle.secrets.proofs.Storing.{secrets_of-none, none_of_seed}
use Rattle.secrets.proofs.store.Store.new.Goals as goal

pub returns-clause-empty : goal.returns-clause-empty
returns-clause-empty c = secrets_of-none _

pub returns-clause-of_any_seed : goal.returns-clause-of_any_seed
returns-clause-of_any_seed c = λ seed. subst (AreOfSeed seed) (sym (secrets_of-none _)) (none_of_seed seed)
